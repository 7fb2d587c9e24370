-- Cases of rows (document 02, K6), which nobody needs to believe the claims: how many rounds like writes of several points take where the log block fills
-- up meanwhile, one less than `serve_rounds`.
use Rattle.std.specs.Prelude.{ℕ, ◌*◌, ◌-◌, List, [], ◌∷◌, ◌++◌, length, replicate}
use Rattle.words.specs.Edition.{one}
use Rattle.words.specs.Logic.{list_from}
use Rattle.block_log.specs.Entry.{entry_of}
use Rattle.points.specs.Record.{no_point}
use Rattle.points.specs.Serving.{serve_rounds}
use Rattle.recovery.specs.World.{World, join, world}
use Rattle.recovery.specs.History.{enough, open_world}
use Rattle.recovery.specs.Sessions.{Case, ◌is◌, Agree}
use Rattle.recovery.specs.OtherSizes.{edge_text}
use Rattle.recovery.specs.Row.{Turn, begun_world, begun_turns, after_rounds}

-- a log block n - 1 entries from full, and 12 blocks after it, of which the first is mapped
abbrev pub almost_full : ℕ → World
almost_full n =
    open_world one (one.mark ∷ 1 ∷ replicate 62 0 ++ (0 ∷ 0 ∷ replicate (63 - n) (entry_of one 10 2 1 512 0) ++ replicate (n - 1) 0) ++ replicate (64 * 12) 0)
    enough

-- points 1 to n join
abbrev pub all_joined : ℕ → World
all_joined n = world one (almost_full n) (list_from 1 n join)

-- each writes from the last byte of virtual block 0 to the first of virtual block 2: 192 words, of which 128 are filled again after a commit of another
abbrev pub like_turns : ℕ → List Turn
like_turns n = list_from 1 n (λ k. record { number = k; given = no_point; request = record { offset = 511; text = edge_text one k } })

-- how many are unfinished after so many rounds
abbrev pub unfinished_after : ℕ → ℕ → ℕ
unfinished_after n rounds =
    length (after_rounds one rounds (begun_world one (all_joined n) (like_turns n)) (begun_turns one (all_joined n) (like_turns n)))

-- Each commits in its turn, 129 rounds after the one before it; the last one finds the log block full, extends, zeroes, links and commits. For two points
-- that is 192 words, Moved, 128 words, Extending, 64 words, the link and the commit
abbrev pub tight_cases : List Case
tight_cases =
    (serve_rounds one 2 ∷ serve_rounds one 3 ∷ [] is 389 ∷ 518 ∷ [])
    ∷ (unfinished_after 2 0 ∷ unfinished_after 2 192 ∷ unfinished_after 2 193 ∷ unfinished_after 2 387 ∷ unfinished_after 2 388 ∷ []
    is 2 ∷ 2 ∷ 1 ∷ 1 ∷ 0 ∷ [])
    ∷ (unfinished_after 3 0 ∷ unfinished_after 3 192 ∷ unfinished_after 3 193 ∷ unfinished_after 3 321 ∷ unfinished_after 3 322 ∷ unfinished_after 3 516
    ∷ unfinished_after 3 517 ∷ []
    is 3 ∷ 3 ∷ 2 ∷ 2 ∷ 1 ∷ 1 ∷ 0 ∷ [])
    ∷ []

unfoldable pub TurnSessions : Type 0
TurnSessions = Agree tight_cases
