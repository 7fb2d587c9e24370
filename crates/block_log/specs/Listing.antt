-- What a listing shows (document 01, "Sessions to check"): "per live block, ascending, virtual and logical index".
use Rattle.std.specs.Prelude.{ℕ, zero, suc, ◌≡◌, List, replicate}
use Rattle.words.specs.Edition.{Edition, one, file_blocks}
use Rattle.words.specs.Memory.{memory}
use Rattle.block_log.specs.declared.Opened.{Opened}
use Rattle.block_log.specs.Opening.{file_of, open_refusal, opened, scratch_after}

-- row v is the logical index of virtual block v, 0 where nothing is mapped; all rows are 0 where opening is refused
unfoldable pub rows_of : Edition → List ℕ → List ℕ → List ℕ
rows_of E words scratch = elim (open_refusal E words scratch) [ zero ↦ (file_of E (memory E words)).table | suc n ↦ replicate file_blocks 0 ]

-- a listing's answer, the scratch after it and the rows
abbrev pub Lists : List ℕ → List ℕ → List ℕ → List ℕ → Opened → Type 0
Lists words scratch after rows r = (r ≡ opened one words scratch) × (after ≡ scratch_after one words scratch) × (rows ≡ rows_of one words scratch)
