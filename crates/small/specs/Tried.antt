-- The list of all legal small logs, as it is found: by trying opening. None of this has to be believed: `AllLegal legal_logs` is proved, and that no
-- other list has that.
use Rattle.std.specs.Prelude.{ℕ, ◌+◌, ◌*◌, ◌-◌, ◌/◌, ◌%◌, Bool, true, false, replicate, ltb}
use mathlib.Core.List.{List, [], ◌∷◌, ◌++◌, map, flat_map}
use Rattle.words.specs.Edition.{one, blocks_max}
use Rattle.words.specs.Logic.{is_zero, list_from}
use Rattle.block_log.specs.Entry.{entry_of}
use Rattle.block_log.specs.Opening.{open_refusal}
use Rattle.small.specs.SmallLogs.{image_with}

-- "b+n is at most the image's block count"
abbrev pub end_most : ℕ
end_most = 4

-- how many small entries are legal: of one block, two for each first block from 1 on; and in all, of two blocks one for each
abbrev pub of_one_block : ℕ
of_one_block = 2 * (end_most - 1)

abbrev pub entry_count : ℕ
entry_count = of_one_block + (end_most - 2)

-- legal small entry k, ascending: those of one block, then those of two
unfoldable pub legal_entry : ℕ → ℕ
legal_entry k = elim (ltb k of_one_block) [ true ↦ entry_of one (k % 2) (k / 2 + 1) 1 512 0 | false ↦ entry_of one 0 (k + 1 - of_one_block) 2 512 0 ]

abbrev pub legal_entries : List ℕ
legal_entries = list_from 0 entry_count legal_entry

-- a log with one entry more, each in turn
abbrev pub one_more : List ℕ → List (List ℕ)
one_more es = map (λ e. es ++ e ∷ []) legal_entries

-- the lists of two legal small entries, in order; and of at most two
abbrev pub pairs : List (List ℕ)
pairs = flat_map one_more (one_more [])

unfoldable pub tried : List (List ℕ)
tried = [] ∷ one_more [] ++ pairs

-- a scratch that is long enough
abbrev pub enough : List ℕ
enough = replicate blocks_max 0

-- opening accepts the image with these entries
unfoldable pub accepts : List ℕ → Bool
accepts es = is_zero (open_refusal one (image_with es) enough)

-- those that opening accepts
unfoldable pub kept : List (List ℕ) → List (List ℕ)
kept [] = []
kept (es ∷ logs) = elim (accepts es) [ true ↦ es ∷ kept logs | false ↦ kept logs ]

unfoldable pub legal_logs : List (List ℕ)
legal_logs = kept tried
