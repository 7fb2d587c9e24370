-- The searches of the faults, a step at a time: what a search finds from a place on is what it finds from the next on, or that place.
use mathlib.Core.Path.{◌≡◌, refl, sym, ap, ◌∙◌}
use mathlib.Core.Logic.{◌≢◌}
use mathlib.Core.List.{List, [], ◌∷◌}
use mathlib.Core.Bool.{Bool, true, false}
use Prim.Native.Nat.{ℕ, zero, suc, ◌+◌, ◌-◌, ◌≤◌, ◌<◌}
use native.Mathlib.Numerals.{add-one}
use native.Mathlib.Omega.{arith}
use lib.Dec.{leb, eqb}
use Rattle.std.specs.Prelude.{◌==◌}
use Rattle.std.specs.List.{take_while}
use Rattle.std.proofs.lemmas.List.Sums.{take_while-cons}
use lib.ListN.{length, get_or, drop, drop_of_length-le}
use lib.Seq.{drop-cons}
use borrow.Author.Tests.{le-leb, lt-leb, eq-eqb, ne_eqb}
use Rattle.words.specs.Edition.{one}
use Rattle.words.specs.BlockMap.{set_all}
use Rattle.words.specs.Logic.{some_of}
use Rattle.words.specs.Memory.{Memory, block_at, byte_in}
use Rattle.block_log.specs.Chain.{bad_log_block}
use Rattle.block_log.specs.Entry.{entry_v, entry_b, entry_n, entry_u, entry_rest, rules, covers}
use Rattle.words.proofs.Logic.{or_right}
use Rattle.words.proofs.Tests.{is-zero, not-zero, or-1, or-2}
use Rattle.inspection.specs.Faults.{zeros_ahead, first_bad, first_broken, last_covering, first_byte}
use Rattle.inspection.specs.Parts.{clashes_at, first_clash}

-- ---- the first word that is not 0

-- it stands behind those that are
pub zeros-taken : (ws : List ℕ) → length (take_while (λ w. w == 0) ws) ≡ zeros_ahead ws
unfolding zeros_ahead
zeros-taken [] = refl
zeros-taken (zero ∷ ws) = ap length (take_while-cons (λ w. w == 0) zero ws) ∙ ap suc (zeros-taken ws)
zeros-taken (suc w ∷ ws) = let e : (suc w == 0) ≡ false = ne_eqb (suc w) 0 (λ z. omega arith) in rw (take_while-cons (λ w. w == 0) (suc w) ws, e)

-- ---- the first log block that breaks 6

module _ (m : Memory) (chain : List ℕ) (k : ℕ) where
  pub bad-here : k < length chain → bad_log_block (block_at m (get_or chain k 0)) ≡ true → first_bad m (drop k chain) ≡ get_or chain k 0
  unfolding first_bad
  bad-here h e = rw (drop-cons chain k 0 h, first_bad, e)

  pub bad-next : k < length chain → bad_log_block (block_at m (get_or chain k 0)) ≡ false → first_bad m (drop k chain) ≡ first_bad m (drop (k + 1) chain)
  unfolding first_bad
  bad-next h e = rw (drop-cons chain k 0 h, add-one, first_bad, e)

  pub bad-none : length chain ≤ k → first_bad m (drop k chain) ≡ 0
  unfolding first_bad
  bad-none h = rw (drop_of_length-le chain h)

-- ---- the last entry that covers

module _ (v : ℕ) where
  covers_at : (es : List ℕ) (j : ℕ) → j < length es → covers v (get_or es j 0) ≡ true → some_of (covers v) es ≡ true
  covers_at [] j h e = absurd (omega arith)
  covers_at (w ∷ ws) zero h e = or-1 (covers v w) (some_of (covers v) ws) e
  covers_at (w ∷ ws) (suc j) h e = or-2 (covers v w) (some_of (covers v) ws) (covers_at ws j (omega arith) e)

  -- an entry covers v and none behind it does
  pub last-here :
      (es : List ℕ) (j : ℕ) → j < length es → covers v (get_or es j 0) ≡ true → some_of (covers v) (drop (suc j) es) ≡ false → last_covering v es ≡ j
  unfolding last_covering
  last-here [] j h e n = absurd (omega arith)
  last-here (w ∷ ws) zero h e n = rw (last_covering, n)
  last-here (w ∷ ws) (suc j) h e n = rw (last_covering, covers_at ws j (omega arith) e) (ap suc (last-here ws j (omega arith) e n))

  -- none does
  pub last_none : (es : List ℕ) → some_of (covers v) es ≡ false → last_covering v es ≡ 0
  unfolding last_covering
  last_none [] n = refl
  last_none (w ∷ ws) n = rw (last_covering, or_right (covers v w) (some_of (covers v) ws) n)

  -- the search goes one entry back
  pub covers-back : (es : List ℕ) (j : ℕ) → j < length es → covers v (get_or es j 0) ≡ false → some_of (covers v) (drop (suc j) es) ≡ false
      → some_of (covers v) (drop j es) ≡ false
  covers-back es j h e n = rw (drop-cons es j 0 h, e) n

-- ---- the first byte that is not 0

module _ (block : List ℕ) (k e : ℕ) where
  pub byte_next : k < e → byte_in block k ≡ 0 → first_byte block k (e - k) ≡ first_byte block (k + 1) (e - (k + 1))
  unfolding first_byte
  byte_next h z = let a : e - k ≡ suc (e - (k + 1)) = omega arith in rw (a, first_byte, is-zero (byte_in block k) z, add-one)

  pub byte-here : k < e → byte_in block k ≢ 0 → first_byte block k (e - k) ≡ k
  unfolding first_byte
  byte-here h z = let a : e - k ≡ suc (e - (k + 1)) = omega arith in rw (a, first_byte, not-zero (byte_in block k) z)

  pub byte-over : e ≤ k → first_byte block k (e - k) ≡ k
  unfolding first_byte
  byte-over h = let a : e - k ≡ 0 = omega arith in rw a

-- ---- the first block that is taken already

module _ (map table : List ℕ) (v : ℕ) where
  pub clash-here : v < length table → clashes_at map (get_or table v 0) ≡ true → v + first_clash map (drop v table) ≡ v
  unfolding first_clash
  clash-here h t = rw (drop-cons table v 0 h, first_clash, t) (omega arith)

  pub clash-next : v < length table → clashes_at map (get_or table v 0) ≡ false
      → v + first_clash map (drop v table) ≡ v + 1 + first_clash (set_all true map (get_or table v 0 ∷ [])) (drop (v + 1) table)
  unfolding first_clash
  clash-next h t = rw (drop-cons table v 0 h, add-one, first_clash, t) (omega arith)

  pub clash-over : length table ≤ v → v + first_clash map (drop v table) ≡ v
  unfolding first_clash
  clash-over h = rw (drop_of_length-le table h) (omega arith)

-- ---- the first rule that an entry breaks

broken-here : (t : Bool) (ts : List Bool) → t ≡ false → first_broken (t ∷ ts) ≡ 1
unfolding first_broken
broken-here t ts e = rw (first_broken, e)

broken-next : (t : Bool) (ts : List Bool) (k : ℕ) → t ≡ true → first_broken ts ≡ k → first_broken (t ∷ ts) ≡ suc k
unfolding first_broken
broken-next t ts k e f = rw (first_broken, e) (ap suc f)

-- one test alone
broken-last : (t : Bool) → first_broken (t ∷ []) ≡ 1
unfolding first_broken
broken-last true = refl
broken-last false = refl

-- with the entry's fields at hand, each rule and those before it
module _ (blocks e v b n u z : ℕ) (ev : v ≡ entry_v e) (eb : b ≡ entry_b e) (en : n ≡ entry_n e) (eu : u ≡ entry_u one e) where
  abbrev found : ℕ
  found = first_broken (rules one blocks e)

  pub breaks-count : n < 1 → found ≡ 1
  breaks-count h = broken-here (leb 1 (entry_n e)) (drop 1 (rules one blocks e)) (lt-leb 1 (entry_n e) (omega arith))

  module _ (h1 : 1 ≤ n) where
    abbrev after1 : (k : ℕ) → first_broken (drop 1 (rules one blocks e)) ≡ k → found ≡ suc k
    after1 k f = broken-next (leb 1 (entry_n e)) (drop 1 (rules one blocks e)) k (le-leb 1 (entry_n e) (omega arith)) f

    pub breaks-few : 64 < n → found ≡ 2
    breaks-few h = after1 1 (broken-here (leb (entry_n e) 64) (drop 2 (rules one blocks e)) (lt-leb (entry_n e) 64 (omega arith)))

    module _ (h2 : n ≤ 64) where
      abbrev after2 : (k : ℕ) → first_broken (drop 2 (rules one blocks e)) ≡ k → found ≡ suc (suc k)
      after2 k f = after1 (suc k) (broken-next (leb (entry_n e) 64) (drop 2 (rules one blocks e)) k (le-leb (entry_n e) 64 (omega arith)) f)

      pub breaks-used : u < 1 → found ≡ 3
      breaks-used h = after2 1 (broken-here (leb 1 (entry_u one e)) (drop 3 (rules one blocks e)) (lt-leb 1 (entry_u one e) (omega arith)))

      module _ (h3 : 1 ≤ u) where
        abbrev after3 : (k : ℕ) → first_broken (drop 3 (rules one blocks e)) ≡ k → found ≡ suc (suc (suc k))
        after3 k f = after2 (suc k) (broken-next (leb 1 (entry_u one e)) (drop 3 (rules one blocks e)) k (le-leb 1 (entry_u one e) (omega arith)) f)

        pub breaks-block : 512 < u → found ≡ 4
        breaks-block h = after3 1 (broken-here (leb (entry_u one e) 512) (drop 4 (rules one blocks e)) (lt-leb (entry_u one e) 512 (omega arith)))

        module _ (h4 : u ≤ 512) where
          abbrev after4 : (k : ℕ) → first_broken (drop 4 (rules one blocks e)) ≡ k → found ≡ suc (suc (suc (suc k)))
          after4 k f = after3 (suc k) (broken-next (leb (entry_u one e) 512) (drop 4 (rules one blocks e)) k (le-leb (entry_u one e) 512 (omega arith)) f)

          module _ (ez : z ≡ entry_rest one e) where
            pub breaks-rest : z ≢ 0 → found ≡ 5
            breaks-rest h = after4 1 (broken-here (eqb (entry_rest one e) 0) (drop 5 (rules one blocks e)) (ne_eqb (entry_rest one e) 0 (λ k. h (ez ∙ k))))

            module _ (h5 : z ≡ 0) where
              abbrev after5 : (k : ℕ) → first_broken (drop 5 (rules one blocks e)) ≡ k → found ≡ suc (suc (suc (suc (suc k))))
              after5 k f = after4 (suc k) (broken-next (eqb (entry_rest one e) 0) (drop 5 (rules one blocks e)) k (eq-eqb (entry_rest one e) 0 (sym ez ∙ h5)) f)

              pub breaks-virtual : 256 < v + n → found ≡ 6
              breaks-virtual h = after5 1 (broken-here (leb (entry_v e + entry_n e) 256) (drop 6 (rules one blocks e)) (lt-leb (entry_v e + entry_n e) 256 (omega arith)))

              module _ (h6 : v + n ≤ 256) where
                abbrev after6 : (k : ℕ) → first_broken (drop 6 (rules one blocks e)) ≡ k → found ≡ suc (suc (suc (suc (suc (suc k)))))
                after6 k f = after5 (suc k) (broken-next (leb (entry_v e + entry_n e) 256) (drop 6 (rules one blocks e)) k (le-leb (entry_v e + entry_n e) 256 (omega arith)) f)

                pub breaks-from : b < 1 → found ≡ 7
                breaks-from h = after6 1 (broken-here (leb 1 (entry_b e)) (drop 7 (rules one blocks e)) (lt-leb 1 (entry_b e) (omega arith)))

                module _ (h7 : 1 ≤ b) where
                  abbrev after7 : (k : ℕ) → first_broken (drop 7 (rules one blocks e)) ≡ k → found ≡ suc (suc (suc (suc (suc (suc (suc k))))))
                  after7 k f = after6 (suc k) (broken-next (leb 1 (entry_b e)) (drop 7 (rules one blocks e)) k (le-leb 1 (entry_b e) (omega arith)) f)

                  pub breaks-last : found ≡ 8
                  breaks-last = after7 1 (broken-last (leb (entry_b e + entry_n e) blocks))
