-- Words and numbers of a text.
use Rattle.std.proofs.Common.{◌≡◌, ◌≢◌, ℕ, suc, Bool, true, false, ◌&&◌, cond, not, List, [], ◌∷◌, length, take, drop, get_or, refl, sym, ◌∙◌, ap, eqb, ltb, leb, ◌+◌, ◌*◌, ◌-◌, ◌^◌, ◌≤◌, ◌<◌, add-one, drop-cons, arith, Some, None}
use lib.ListN.{drop_of_length-le}
use lib.Seq.{take_all}
use native.Mathlib.Decide.{ℕ_discrete}
use Rattle.std.specs.List.{position_from, position_or_len}
use Rattle.std.specs.Option.{unwrap_or}
use Rattle.std.proofs.lemmas.Grind.{common_steps}
use Rattle.std.proofs.lemmas.List.{length-drop}
use Rattle.std.proofs.lemmas.List.Sums.{prefix_len-le-length}
use Rattle.std.proofs.lemmas.List.Recursion.{is_position_or_len}
use Rattle.std.proofs.lemmas.Iterator.Adapters.{position_from-zero}
use Rattle.words.proofs.Choice.{choose-true, choose-false}
use Rattle.words.proofs.Logic.{and_both}
use borrow.Author.Tests.{eq-eqb, ne_eqb, le-leb, lt-leb, lt-ltb, le-ltb}
use Rattle.words.specs.Logic.{all_of, between}
use Rattle.session.specs.Scan.{up_to, blanks, trimmed, after_word, word_at, value_from, is_digit, is_number, number_of}

and-left-false : {a : Bool} (b : Bool) → a ≡ false → a && b ≡ false
and-left-false b e = rw e

and-right-false : (a : Bool) {b : Bool} → b ≡ false → a && b ≡ false
and-right-false true e = e
and-right-false false e = refl

-- ---- words

-- where the test passes first, or the length
cut : (a n : ℕ) → a ≤ n → unwrap_or (cond (ltb a n) (Some a) None) n ≡ a
cut a n h = grind (arith, common_steps)

unwrap_position : (test : ℕ → Bool) (xs : List ℕ) → unwrap_or (position_from test 0 xs) (length xs) ≡ position_or_len test xs
unwrap_position test xs = rw (← position_from-zero test xs) (cut (position_or_len test xs) (length xs) (prefix_len-le-length _ xs))

pub position_within : (test : ℕ → Bool) (xs : List ℕ) → unwrap_or (position_from test 0 xs) (length xs) ≤ length xs
position_within test xs = rw (unwrap_position test xs) (prefix_len-le-length _ xs)

blanks_step : (x : ℕ) (xs : List ℕ) → blanks (x ∷ xs) ≡ cond (not (eqb x 32)) 0 (1 + blanks xs)
unfolding blanks
blanks_step x xs = elim (eqb x 32) as (λ b. elim b [ true ↦ suc (blanks xs) | false ↦ 0 ] ≡ cond (not b) 0 (1 + blanks xs)) [ true ↦ omega arith | false ↦ refl ]

no_blanks : blanks [] ≡ 0
unfolding blanks
no_blanks = refl

pub blanks_found : (xs : List ℕ) → unwrap_or (position_from (λ b. not (eqb b 32)) 0 xs) (length xs) ≡ blanks xs
blanks_found xs = unwrap_position (λ b. not (eqb b 32)) xs ∙ sym (is_position_or_len blanks (λ b. not (eqb b 32)) no_blanks blanks_step xs)

up_to-same : (b x : ℕ) (xs : List ℕ) → x ≡ b → up_to b (x ∷ xs) ≡ []
unfolding up_to
up_to-same b x xs e = choose-true (eqb x b) [] (x ∷ up_to b xs) (eq-eqb x b e)

up_to-other : (b x : ℕ) (xs : List ℕ) → x ≢ b → up_to b (x ∷ xs) ≡ x ∷ up_to b xs
unfolding up_to
up_to-other b x xs h = choose-false (eqb x b) [] (x ∷ up_to b xs) (ne_eqb x b h)

one_more : (n : ℕ) → suc n ≡ 1 + n
one_more n = omega arith

word_step-by : (x : ℕ) (xs : List ℕ) → Dec (x ≡ 32) → length (up_to 32 (x ∷ xs)) ≡ cond (eqb x 32) 0 (1 + length (up_to 32 xs))
word_step-by x xs (yes e) = rw (up_to-same 32 x xs e, eq-eqb x 32 e)
word_step-by x xs (no h) = rw (up_to-other 32 x xs h, ne_eqb x 32 h) (one_more (length (up_to 32 xs)))

word_step : (x : ℕ) (xs : List ℕ) → length (up_to 32 (x ∷ xs)) ≡ cond (eqb x 32) 0 (1 + length (up_to 32 xs))
word_step x xs = word_step-by x xs (ℕ_discrete x 32)

no_word : length (up_to 32 []) ≡ 0
unfolding up_to
no_word = refl

pub word_found : (xs : List ℕ) → unwrap_or (position_from (λ b. eqb b 32) 0 xs) (length xs) ≡ length (up_to 32 xs)
word_found xs = unwrap_position (λ b. eqb b 32) xs ∙ sym (is_position_or_len (λ (l : List ℕ). length (up_to 32 l)) (λ b. eqb b 32) no_word word_step xs)

up_to-none : (b : ℕ) → up_to b [] ≡ []
unfolding up_to
up_to-none b = refl

take-cons :
    (b x : ℕ) (xs : List ℕ) → Dec (x ≡ b) → take (length (up_to b xs)) xs ≡ up_to b xs
    → take (length (up_to b (x ∷ xs))) (x ∷ xs) ≡ up_to b (x ∷ xs)
take-cons b x xs (yes e) s = rw (up_to-same b x xs e)
take-cons b x xs (no h) s = rw (up_to-other b x xs h) (ap (λ (l : List ℕ). x ∷ l) s)

up_to-take : (b : ℕ) (xs : List ℕ) → take (length (up_to b xs)) xs ≡ up_to b xs
up_to-take b [] = rw up_to-none
up_to-take b (x ∷ xs) = take-cons b x xs (ℕ_discrete x b) (up_to-take b xs)

-- the next word begins after n blanks and has m bytes
module _ (line : List ℕ) (n m : ℕ) (begins : n ≡ blanks line) (ends : m ≡ length (up_to 32 (take (length line - n) (drop n line)))) where
  trim : take (length line - n) (drop n line) ≡ trimmed line
  unfolding trimmed
  trim = let h : length (drop n line) ≤ length line - n = omega (arith, length-drop n line) in
      take_all (length line - n) (drop n line) h ∙ ap (λ (k : ℕ). drop k line) begins

  pub word_here : take m (take (length line - n) (drop n line)) ≡ word_at 0 line
  unfolding word_at
  word_here = rw (ends, trim) (up_to-take 32 (trimmed line))

  pub rest_here : drop m (take (length line - n) (drop n line)) ≡ after_word line
  unfolding after_word
  rest_here = rw (ends, trim)

-- ---- numbers

value_grows : (v : ℕ) (xs : List ℕ) → v ≤ value_from v xs
unfolding value_from
value_grows v [] = omega arith
value_grows v (x ∷ xs) = omega (arith, value_grows (10 * v + (x - 48)) xs)

-- the value and the digits of a word, from a place on
module _ (word : List ℕ) (i : ℕ) where
  pub value-next : (v : ℕ) → i < length word → value_from v (drop i word) ≡ value_from (10 * v + (get_or word i 0 - 48)) (drop (i + 1) word)
  unfolding value_from
  value-next v l = rw (add-one, drop-cons word i 0)

  pub value-end : (v : ℕ) → length word ≤ i → value_from v (drop i word) ≡ v
  unfolding value_from
  value-end v l = rw (drop_of_length-le word l)

  pub value-least : (v : ℕ) → i < length word → 10 * v + (get_or word i 0 - 48) ≤ value_from v (drop i word)
  value-least v l = rw (value-next v l) (value_grows (10 * v + (get_or word i 0 - 48)) (drop (i + 1) word))

  pub digits-next : i < length word → is_digit (get_or word i 0) ≡ true → all_of is_digit (drop i word) ≡ all_of is_digit (drop (i + 1) word)
  digits-next l e = rw (add-one, drop-cons word i 0, e)

  pub digits-end : length word ≤ i → all_of is_digit (drop i word) ≡ true
  digits-end l = rw (drop_of_length-le word l)

  pub digits-stop : i < length word → is_digit (get_or word i 0) ≡ false → all_of is_digit (drop i word) ≡ false
  digits-stop l e = rw (drop-cons word i 0, e)

pub is_digit_lem : (x : ℕ) → 48 ≤ x → x ≤ 57 → is_digit x ≡ true
is_digit_lem x lo hi = and_both (leb 48 x) (leb x 57) (le-leb 48 x lo) (le-leb x 57 hi)

pub below-digits : (x : ℕ) → x < 48 → is_digit x ≡ false
below-digits x h = and-left-false (leb x 57) (lt-leb 48 x h)

pub above-digits : (x : ℕ) → 57 < x → is_digit x ≡ false
above-digits x h = and-right-false (leb 48 x) (lt-leb x 57 h)

-- when a word is a number, and why it is none
module _ (word : List ℕ) where
  no_number : is_number word ≡ false → None ≡ number_of word
  unfolding number_of
  no_number e = sym (choose-false (is_number word) (Some (value_from 0 word)) None e)

  pub too_short : length word < 1 → None ≡ number_of word
  unfolding is_number
  too_short h = no_number (and-left-false _ (and-left-false (leb (length word) 20) (lt-leb 1 (length word) h)))

  pub too_long : 20 < length word → None ≡ number_of word
  unfolding is_number
  too_long h = no_number (and-left-false _ (and-right-false (leb 1 (length word)) (lt-leb (length word) 20 h)))

  pub no_digit : all_of is_digit word ≡ false → None ≡ number_of word
  unfolding is_number
  no_digit e = no_number (and-right-false (between 1 (length word) 20) (and-left-false (ltb (value_from 0 word) (2 ^ 64)) e))

  pub too_large : 2 ^ 64 ≤ value_from 0 word → None ≡ number_of word
  unfolding is_number
  too_large h = no_number (and-right-false (between 1 (length word) 20) (and-right-false (all_of is_digit word) (le-ltb (value_from 0 word) (2 ^ 64) h)))

  pub is-number :
      (v : ℕ) → v ≡ value_from 0 word → 1 ≤ length word → length word ≤ 20 → all_of is_digit word ≡ true → v < 2 ^ 64
      → Some v ≡ number_of word
  unfolding number_of is_number
  is-number v e lo hi d h =
      let l = and_both (leb 1 (length word)) (leb (length word) 20) (le-leb 1 (length word) lo) (le-leb (length word) 20 hi) in
      let s : value_from 0 word < 2 ^ 64 = omega arith in
      let b = and_both (all_of is_digit word) (ltb (value_from 0 word) (2 ^ 64)) d (lt-ltb (value_from 0 word) (2 ^ 64) s) in
      ap Some e ∙ sym (choose-true (is_number word) (Some (value_from 0 word)) None (and_both (between 1 (length word) 20) _ l b))
