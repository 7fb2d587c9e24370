-- "digest of a list of numbers below 65,536".
use Rattle.std.specs.Prelude.{ℕ, ◌+◌, ◌*◌, ◌/◌, ◌%◌, ◌^◌, ◌≡◌, refl, List, [], ◌∷◌}

-- "h := (h × 65,599 + x) mod 4,294,967,291"
abbrev pub onward : ℕ → ℕ → ℕ
onward h x = (h * 65599 + x) % 4294967291

unfoldable pub digest_from : ℕ → List ℕ → ℕ
digest_from h [] = h
digest_from h (x ∷ xs) = digest_from (onward h x) xs

-- "start with h = 1"
abbrev pub digest : List ℕ → ℕ
digest = digest_from 1

-- "A 64-bit word counts as its four 16-bit parts, low part first"
unfoldable pub parts : List ℕ → List ℕ
parts [] = []
parts (w ∷ ws) = w % 2 ^ 16 ∷ w / 2 ^ 16 % 2 ^ 16 ∷ w / 2 ^ 32 % 2 ^ 16 ∷ w / 2 ^ 48 % 2 ^ 16 ∷ parts ws

pub no_parts : parts [] ≡ []
unfolding parts
no_parts = refl
