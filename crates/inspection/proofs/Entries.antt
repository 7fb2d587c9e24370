-- The entries that are read, against the log: up to the first word that is no legal entry. Where all entries are legal, that is the first empty
-- word, so the log is read; where one is not, it is that word or one before it, and it is not empty.
use mathlib.Core.Path.{◌≡◌, refl, ap, ◌∙◌}
use mathlib.Core.Logic.{◌≢◌}
use mathlib.Core.Bool.{Bool, true, false, not}
use mathlib.Core.List.{List, [], ◌∷◌}
use Prim.Native.Nat.{ℕ, zero, suc, ◌<◌}
use native.Mathlib.Omega.{arith}
use lib.ListN.{length, get_or}
use borrow.Author.Tests.{not-false}
use Rattle.words.specs.Edition.{Edition, one}
use Rattle.words.specs.Logic.{up_to_zero}
use Rattle.words.specs.Memory.{Memory, memory, block_count}
use Rattle.words.proofs.Choice.{choose-true, choose-false}
use Rattle.words.proofs.Logic.{or_left, or_right}
use Rattle.words.proofs.Tests.{false-if, no_true}
use Rattle.block_log.specs.Chain.{chain, log, slots_of}
use Rattle.block_log.specs.Entry.{legal}
use Rattle.block_log.specs.Opening.{bad_entry, file_of}
use Rattle.block_log.proofs.Entry.{legal-valid, valid-nonzero}
use Rattle.block_log.proofs.Opening.{Passed, refusal-passed}
use Rattle.inspection.specs.Inspecting.{Agrees}
use Rattle.inspection.specs.Reading.{read_chain, read_log, read_file, while_legal}
use Rattle.inspection.proofs.ChainRead.{chain-read}

-- the elements before the first zero stand at the front
pub up_at : (ws : List ℕ) (j : ℕ) → j < length (up_to_zero ws) → get_or (up_to_zero ws) j 0 ≡ get_or ws j 0
up_at [] j h = absurd (omega arith)
up_at (zero ∷ ws) j h = absurd (omega arith)
up_at (suc w ∷ ws) zero h = refl
up_at (suc w ∷ ws) (suc j) h = up_at ws j (omega arith)

module _ (E : Edition) (blocks : ℕ) where
  -- the word that is no legal entry, where the entries read end
  pub record Broken (ws : List ℕ) (j : ℕ) : Type 0 where
    pub inside : j < length ws
    pub some : get_or ws j 0 ≢ 0
    pub wrong : legal E blocks (get_or ws j 0) ≡ false

  -- an empty word is no legal entry
  empty : legal E blocks 0 ≡ false
  empty = false-if (legal E blocks 0) (λ t. valid-nonzero E blocks 0 (legal-valid E blocks 0 t) refl)

  module _ (w : ℕ) (ws : List ℕ) where
    while-on : legal E blocks w ≡ true → while_legal E blocks (w ∷ ws) ≡ w ∷ while_legal E blocks ws
    unfolding while_legal
    while-on e = choose-true (legal E blocks w) (w ∷ while_legal E blocks ws) [] e

    while-end : legal E blocks w ≡ false → while_legal E blocks (w ∷ ws) ≡ []
    unfolding while_legal
    while-end e = choose-false (legal E blocks w) (w ∷ while_legal E blocks ws) [] e

    bad-head : bad_entry E blocks (w ∷ ws) ≡ false → legal E blocks w ≡ true
    unfolding bad_entry
    bad-head h = not-false (legal E blocks w) (or_left (not (legal E blocks w)) _ h)

    bad-rest : bad_entry E blocks (w ∷ ws) ≡ false → bad_entry E blocks ws ≡ false
    unfolding bad_entry
    bad-rest h = or_right (not (legal E blocks w)) _ h

    bad-on : legal E blocks w ≡ true → bad_entry E blocks (w ∷ ws) ≡ true → bad_entry E blocks ws ≡ true
    unfolding bad_entry
    bad-on e h = rw e at h

  bad-none : bad_entry E blocks [] ≡ true → ⊥
  unfolding bad_entry
  bad-none h = no_true h refl

  -- all entries are legal
  pub while-all : (ws : List ℕ) → bad_entry E blocks (up_to_zero ws) ≡ false → while_legal E blocks ws ≡ up_to_zero ws
  while-all [] h = unfold while_legal in refl
  while-all (zero ∷ ws) h = while-end 0 ws empty
  while-all (suc w ∷ ws) h =
      while-on (suc w) ws (bad-head (suc w) (up_to_zero ws) h)
      ∙ ap (λ (l : List ℕ). suc w ∷ l) (while-all ws (bad-rest (suc w) (up_to_zero ws) h))

  -- some entry is not
  pub while-broken : (ws : List ℕ) → bad_entry E blocks (up_to_zero ws) ≡ true → Broken ws (length (while_legal E blocks ws))
  while-broken [] h = absurd (bad-none h)
  while-broken (zero ∷ ws) h = absurd (bad-none h)
  while-broken (suc w ∷ ws) h = go (legal E blocks (suc w)) refl (λ e. while-broken ws (bad-on (suc w) (up_to_zero ws) e h))
    where
      go :
          (t : Bool) → legal E blocks (suc w) ≡ t → (legal E blocks (suc w) ≡ true → Broken ws (length (while_legal E blocks ws)))
          → Broken (suc w ∷ ws) (length (while_legal E blocks (suc w ∷ ws)))
      go true e ih = let b = ih e in rw (while-on (suc w) ws e) (record { inside = omega (arith, b.inside); some = b.some; wrong = b.wrong })
      go false e ih = rw (while-end (suc w) ws e) (record { inside = omega arith; some = λ z. omega arith; wrong = e })

-- ---- past 1 to 6

module _ {E : Edition} {words scratch : List ℕ} (p : Passed E words scratch) where
  abbrev m : Memory
  m = memory E words

  abbrev blocks : ℕ
  blocks = block_count E words

  pub chain_same : read_chain blocks m ≡ chain m
  chain_same = chain-read blocks m p.index p.ends

  -- 7 does not hold: what is read is the log, and the file
  module _ (h : bad_entry E blocks (log m) ≡ false) where
    pub log-same : read_log E blocks m ≡ log m
    unfolding read_log log
    log-same = rw chain_same (while-all E blocks (slots_of m (chain m)) h)

    pub file-same : read_file E blocks m ≡ file_of E m
    unfolding read_file file_of
    file-same = rw log-same

  -- 7 holds: the entries read end at a word that is no legal entry
  pub log-broken : bad_entry E blocks (log m) ≡ true → Broken E blocks (slots_of m (chain m)) (length (read_log E blocks m))
  unfolding read_log log
  log-broken h = rw chain_same (while-broken E blocks (slots_of m (chain m)) h)

-- ---- an image that opens

pub agrees : (words scratch : List ℕ) → Agrees words scratch
agrees words scratch e = let p = refusal-passed one words scratch e in (chain_same p.0, log-same p.0 p.1)
