-- The cases of reports and of the chain's length hold of the definitions: computed on the blocks.
use mathlib.Core.Path.{◌≡◌, refl}
use mathlib.Core.Bool.{true}
use mathlib.Core.List.{[], ◌∷◌}
use lib.ListN.{take}
use Rattle.words.specs.Edition.{one}
use Rattle.recovery.specs.World.{join}
use Rattle.recovery.specs.Computing.{computing}
use Rattle.recovery.specs.MoreSessions.{full_world}
use Rattle.recovery.specs.StandSessions.{stand_calls, told_cases, end_cases, at_link_cases, round_cases, StandSessions}
use Rattle.recovery.proofs.OnBlocks.{test_on, by_blocks, on_blocks}

begun : test_on one (full_world 6) (take 6 stand_calls) (told_cases 6 (1 ∷ 1 ∷ 1 ∷ 0 ∷ 1 ∷ [])) ≡ true
unfolding computing on_blocks
begun = refl

zeroed : test_on one (full_world 6) (take 135 stand_calls) (told_cases 135 (1 ∷ 1 ∷ 1 ∷ 0 ∷ 1 ∷ [])) ≡ true
unfolding computing on_blocks
zeroed = refl

linked : test_on one (full_world 6) (take 136 stand_calls) (told_cases 136 (1 ∷ 5 ∷ 1 ∷ 0 ∷ 2 ∷ [])) ≡ true
unfolding computing on_blocks
linked = refl

committed : test_on one (full_world 6) (take 137 stand_calls) (told_cases 137 (1 ∷ 5 ∷ 1 ∷ 0 ∷ 2 ∷ [])) ≡ true
unfolding computing on_blocks
committed = refl

moved : test_on one (full_world 6) (take 202 stand_calls) (told_cases 202 (5 ∷ 5 ∷ 1 ∷ 0 ∷ 2 ∷ [])) ≡ true
unfolding computing on_blocks
moved = refl

again : test_on one (full_world 6) (take 205 stand_calls) (told_cases 205 (5 ∷ 5 ∷ 5 ∷ 0 ∷ 2 ∷ [])) ≡ true
unfolding computing on_blocks
again = refl

left : test_on one (full_world 6) stand_calls (told_cases 208 (5 ∷ 0 ∷ 5 ∷ 0 ∷ 2 ∷ [])) ≡ true
unfolding computing on_blocks
left = refl

end : test_on one (full_world 6) (take 70 stand_calls) end_cases ≡ true
unfolding computing on_blocks
end = refl

at-link : test_on one (full_world 6) (take 135 stand_calls) at_link_cases ≡ true
unfolding computing on_blocks
at-link = refl

rounds : test_on one (full_world 6) (join 0 ∷ []) round_cases ≡ true
unfolding computing on_blocks
rounds = refl

pub stand-sessions : StandSessions
unfolding StandSessions
stand-sessions = (
  by_blocks one (full_world 6) (take 6 stand_calls) (told_cases 6 (1 ∷ 1 ∷ 1 ∷ 0 ∷ 1 ∷ [])) begun,
  by_blocks one (full_world 6) (take 135 stand_calls) (told_cases 135 (1 ∷ 1 ∷ 1 ∷ 0 ∷ 1 ∷ [])) zeroed,
  by_blocks one (full_world 6) (take 136 stand_calls) (told_cases 136 (1 ∷ 5 ∷ 1 ∷ 0 ∷ 2 ∷ [])) linked,
  by_blocks one (full_world 6) (take 137 stand_calls) (told_cases 137 (1 ∷ 5 ∷ 1 ∷ 0 ∷ 2 ∷ [])) committed,
  by_blocks one (full_world 6) (take 202 stand_calls) (told_cases 202 (5 ∷ 5 ∷ 1 ∷ 0 ∷ 2 ∷ [])) moved,
  by_blocks one (full_world 6) (take 205 stand_calls) (told_cases 205 (5 ∷ 5 ∷ 5 ∷ 0 ∷ 2 ∷ [])) again,
  by_blocks one (full_world 6) stand_calls (told_cases 208 (5 ∷ 0 ∷ 5 ∷ 0 ∷ 2 ∷ [])) left,
  by_blocks one (full_world 6) (take 70 stand_calls) end_cases end,
  by_blocks one (full_world 6) (take 135 stand_calls) at_link_cases at-link,
  by_blocks one (full_world 6) (join 0 ∷ []) round_cases rounds,
)
