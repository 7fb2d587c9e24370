-- Lines, words and numbers of a script. Texts are lists of bytes.
use Rattle.std.specs.Prelude.{ℕ, zero, suc, ◌+◌, ◌*◌, ◌-◌, ◌^◌, Bool, true, false, ◌&&◌, List, [], ◌∷◌, length, drop, eqb, ltb, Option, Some, None}
use Rattle.words.specs.Logic.{between, all_of}

-- the bytes before the first b, or all
unfoldable pub up_to : ℕ → List ℕ → List ℕ
up_to b [] = []
up_to b (x ∷ xs) = elim (eqb x b) [ true ↦ [] | false ↦ x ∷ up_to b xs ]

-- how many blanks a text begins with: a blank is the space character alone
unfoldable pub blanks : List ℕ → ℕ
blanks [] = 0
blanks (x ∷ xs) = elim (eqb x 32) [ true ↦ suc (blanks xs) | false ↦ 0 ]

-- a text without the blanks that it begins with, and a text from the end of its first word on
unfoldable pub trimmed : List ℕ → List ℕ
trimmed text = drop (blanks text) text

unfoldable pub after_word : List ℕ → List ℕ
after_word text = drop (length (up_to 32 (trimmed text))) (trimmed text)

-- word k of a line, empty where it has no more than k words
unfoldable pub word_at : ℕ → List ℕ → List ℕ
word_at zero line = up_to 32 (trimmed line)
word_at (suc k) line = word_at k (after_word line)

-- the value of decimal digits after a value
unfoldable pub value_from : ℕ → List ℕ → ℕ
value_from v [] = v
value_from v (x ∷ xs) = value_from (10 * v + (x - 48)) xs

-- "1 to 20 decimal digits with a value below 2^64"
abbrev pub is_digit : ℕ → Bool
is_digit x = between 48 x 57

unfoldable pub is_number : List ℕ → Bool
is_number word = between 1 (length word) 20 && (all_of is_digit word && ltb (value_from 0 word) (2 ^ 64))

unfoldable pub number_of : List ℕ → Option ℕ
number_of word = elim (is_number word) [ true ↦ Some (value_from 0 word) | false ↦ None ]
