-- What the commands `noise` and `begin` make.
use Rattle.std.specs.Prelude.{ℕ, zero, suc, ◌+◌, ◌*◌, ◌/◌, ◌%◌, ◌^◌, List, [], ◌∷◌}
use Rattle.std.specs.Int.Bits.{bit_xor}
use Rattle.words.specs.Logic.{list_from}

-- "x ^= x << 13 (mod 2^64), x ^= x >> 7, x ^= x << 17 (mod 2^64)"
abbrev pub shift_up : ℕ → ℕ → ℕ
shift_up k x = bit_xor x (x * 2 ^ k % 2 ^ 64)

abbrev pub shift_down : ℕ → ℕ → ℕ
shift_down k x = bit_xor x (x / 2 ^ k)

unfoldable pub scrambled : ℕ → ℕ
scrambled x = shift_up 17 (shift_down 7 (shift_up 13 x))

-- "x := S, if 0 then 88172645463325252"
unfoldable pub first_noise : ℕ → ℕ
first_noise zero = 88172645463325252
first_noise (suc s) = suc s

-- "for each word: .. the word is x"
unfoldable pub noise : ℕ → ℕ → List ℕ
noise x zero = []
noise x (suc n) = scrambled x ∷ noise (scrambled x) n

-- "byte i being (S + 7 × i) mod 256"
abbrev pub text_byte : ℕ → ℕ → ℕ
text_byte seed i = (seed + 7 * i) % 256

unfoldable pub text_of : ℕ → ℕ → List ℕ
text_of seed size = list_from 0 size (text_byte seed)
