-- An entry: its rules as facts, both ways; the fields of one that is put together, and a word put together from its fields; which virtual blocks it covers.
use mathlib.Core.Path.{◌≡◌, refl, sym, ap, subst, ◌∙◌}
use mathlib.Core.Logic.{◌≢◌}
use mathlib.Core.Bool.{Bool, true, false, ◌&&◌}
use Prim.Native.Nat.{ℕ, ◌+◌, ◌*◌, ◌-◌, ◌/◌, ◌%◌, ◌^◌, ◌≤◌, ◌<◌}
use native.Mathlib.Omega.{arith}
use lib.Dec.{leb, ltb}
use lib.Pow.{mod-pow-add, recompose}
use borrow.Author.Tests.{leb-true, eqb-true, le-leb, lt-leb, eq-eqb, lt-ltb, ltb-true}
use Rattle.words.specs.Edition.{Edition, one, block_bytes}
use Rattle.block_log.specs.Entry.{entry_v, entry_b, entry_n, entry_u, entry_point, entry_rest, entry_of, rules, legal}
use Rattle.block_log.specs.Parts.{Mappable}
use Rattle.words.proofs.Sizes.{sized}
use Rattle.words.proofs.Logic.{every-all, all-every, agree}

-- 7, for an image of B blocks: the rules are kept
pub record Valid (E : Edition) (B e : ℕ) : Type 0 where
  pub count : 1 ≤ entry_n e
  pub few : entry_n e ≤ 64
  pub used : 1 ≤ entry_u E e
  pub block : entry_u E e ≤ block_bytes E
  pub top : entry_rest E e ≡ 0
  pub virtual : entry_v e + entry_n e ≤ 256
  pub from : 1 ≤ entry_b e
  pub inside : entry_b e + entry_n e ≤ B

pub record Packed (E : Edition) (v b n u p : ℕ) : Type 0 where
  pub is_first : entry_v (entry_of E v b n u p) ≡ v
  pub is_block : entry_b (entry_of E v b n u p) ≡ b
  pub is_count : entry_n (entry_of E v b n u p) ≡ n
  pub is_used : entry_u E (entry_of E v b n u p) ≡ u
  pub no_top : entry_rest E (entry_of E v b n u p) ≡ 0

-- an entry of the log is no empty word
pub valid-nonzero : (E : Edition) (B e : ℕ) → Valid E B e → e ≢ 0
unfolding entry_n
valid-nonzero E B e v z = omega (arith, v.count)

-- the same of numbers: e has these fields, with U bits of used bytes
record Fields (v b n u U e : ℕ) : Type 0 where
  is_v : e / 2 ^ 0 % 2 ^ 16 ≡ v
  is_b : e / 2 ^ 16 % 2 ^ 16 ≡ b
  is_n : e / 2 ^ 32 % 2 ^ 8 ≡ n
  is_u : e / 2 ^ 40 % 2 ^ U ≡ u
  is_top : e / 2 ^ (45 + U) % 2 ^ (19 - U) ≡ 0

fields :
    (E : Edition) (v b n u p : ℕ) → v < 65536 → b < 65536 → n < 256 → u ≤ block_bytes E → p < 32
    → Fields v b n u E.used_bits (entry_of E v b n u p)
fields E v b n u p =
    sized (λ W U. v < 65536 → b < 65536 → n < 256 → u ≤ 8 * W → p < 32
    → Fields v b n u U (v + b * 2 ^ 16 + n * 2 ^ 32 + u * 2 ^ 40 + p * 2 ^ (40 + U))) (omega arith) E

pub packed : (E : Edition) (v b n u p : ℕ) → v < 65536 → b < 65536 → n < 256 → u ≤ block_bytes E → p < 32 → Packed E v b n u p
unfolding entry_v entry_b entry_n entry_u entry_rest
packed E v b n u p hv hb hn hu hp =
    let f = fields E v b n u p hv hb hn hu hp in
    record { is_first = f.is_v; is_block = f.is_b; is_count = f.is_n; is_used = f.is_u; no_top = f.is_top }

sum : (w a b c d v f n u p : ℕ) → w ≡ a → a ≡ p + b → b ≡ u + c → c ≡ n + d → d ≡ f + v → w ≡ v + f + n + u + p
sum w a b c d v f n u p e g h i j = omega arith

module _ (E : Edition) (w : ℕ) where
  -- the lowest bits of w, up to a field's end: the field, and those below it
  low : (j k m : ℕ) → m ≡ j + k → w % 2 ^ m ≡ w / 2 ^ k % 2 ^ j * 2 ^ k + w % 2 ^ k
  low j k m e = ap (λ i. w % 2 ^ i) e ∙ mod-pow-add w j k

  -- a word with zeros above the point number is its fields
  pub whole : w < 2 ^ 64 → entry_rest E w ≡ 0 → w ≡ entry_of E (entry_v w) (entry_b w) (entry_n w) (entry_u E w) (entry_point E w)
  unfolding entry_v entry_b entry_n entry_u entry_point entry_rest
  whole h z =
      let U = E.used_bits in
      let few : U ≤ 19 = sized (λ W U. U ≤ 19) (omega arith) E in
      let all : 64 ≡ 19 - U + (45 + U) = omega (arith, few) in
      let top : w ≡ w % 2 ^ (45 + U) =
      sym (recompose {n = w} (19 - U) (45 + U) (subst (λ k. w < 2 ^ k) all h)) ∙ ap (λ t. t * 2 ^ (45 + U) + w % 2 ^ (45 + U)) z ∙ omega arith in
      let last : w % 2 ^ 32 ≡ entry_b w * 2 ^ 16 + entry_v w = omega arith in
      sum w _ _ _ _ _ _ _ _ _ top (low 5 (40 + U) (45 + U) (omega arith)) (low U 40 (40 + U) (omega arith)) (low 8 32 40 refl) last

pub valid-legal : (E : Edition) (B e : ℕ) → Valid E B e → legal E B e ≡ true
unfolding legal
valid-legal E B e v = all-every (rules E B e) (
  le-leb _ _ v.count,
  (
    le-leb _ _ v.few,
    (le-leb _ _ v.used, (le-leb _ _ v.block, (eq-eqb _ _ v.top, (le-leb _ _ v.virtual, (le-leb _ _ v.from, (le-leb _ _ v.inside, tt)))))),
  ),
)

pub legal-valid : (E : Edition) (B e : ℕ) → legal E B e ≡ true → Valid E B e
unfolding legal
legal-valid E B e h = let t = every-all (rules E B e) h in record {
  count = leb-true _ _ t.0;
  few = leb-true _ _ t.1.0;
  used = leb-true _ _ t.1.1.0;
  block = leb-true _ _ t.1.1.1.0;
  top = eqb-true _ _ t.1.1.1.1.0;
  virtual = leb-true _ _ t.1.1.1.1.1.0;
  from = leb-true _ _ t.1.1.1.1.1.1.0;
  inside = leb-true _ _ t.1.1.1.1.1.1.1.0;
}

-- a legal entry may be taken in
pub legal-mappable : (blocks e : ℕ) → blocks ≤ 1024 → legal one blocks e ≡ true → Mappable e
legal-mappable blocks e few h = let v = legal-valid one blocks e h in (v.count, v.virtual, omega (arith, v.inside), v.block)

-- ---- cover

pub covers_below : (v x : ℕ) (t : Bool) → x < v → leb v x && t ≡ false
covers_below v x t h = rw (lt-leb v x h)

pub covers-in : (v n x : ℕ) → v ≤ x → leb v x && ltb x (v + n) ≡ ltb (x - v) n
covers-in v n x h =
    rw (le-leb v x h)
    (agree (ltb x (v + n)) (ltb (x - v) n) (λ e. let l : x < v + n = ltb-true x (v + n) e in lt-ltb (x - v) n (omega arith))
    (λ e. let l : x - v < n = ltb-true (x - v) n e in lt-ltb x (v + n) (omega arith)))
