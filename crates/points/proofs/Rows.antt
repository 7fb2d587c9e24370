-- What the words of one block of a run need, found once: a row is that of its record, and by it each word of the block is found. Assumes nothing.
use Prim.Native.Nat.{ℕ, zero, suc, ◌+◌, ◌*◌, ◌-◌, ◌/◌, ◌%◌, ◌^◌, ◌≤◌, ◌<◌, min}
use native.Mathlib.Numerals.{add-one}
use native.Mathlib.Omega.{arith}
use mathlib.Core.Path.{◌≡◌, refl, sym, ap, ◌∙◌}
use mathlib.Core.Logic.{◌≢◌, ◌⊎◌, inl}
use mathlib.Core.List.{List, []}
use lib.ListN.{length, get_or, take, drop}
use lib.Seq.{get_or-take, get_or-drop}
use Rattle.words.specs.Edition.{Edition, one, block_bytes}
use Rattle.words.specs.Logic.{list_from}
use Rattle.words.specs.Word.{byte_of, from_bytes}
use Rattle.words.specs.Memory.{Memory, memory, block_at, put, after}
use Rattle.words.proofs.Memory.{block-part}
use Rattle.words.proofs.Sizes.{word_in}
use Rattle.block_log.specs.Replay.{mapped_byte}
use Rattle.points.specs.declared.Phase.{Phase}
use Rattle.points.specs.declared.Head.{Head}
use Rattle.points.specs.declared.serve.Row.{Row}
use Rattle.points.specs.declared.serve.Due.{Due}
use Rattle.std.specs.Prelude.{Option, Some, None}
use Rattle.points.specs.Record.{run_first, run_blocks, run_words, text_max, writing}
use Rattle.points.specs.Fill.{new_word}
use Rattle.points.specs.Stepping.{turned}
use Rattle.points.specs.Lent.{TextFits, mixed_byte}
use Rattle.points.specs.Batch.{filled_at, filled_on, row_of, Fillable, Prepared, InRow, InOneBlock}
use Rattle.points.specs.Batch.{copied_word, mixed_word, row_word, row_put, row_stored, round_stored, rounds_stored}
use Rattle.points.proofs.Spans.{lies}
use Rattle.points.proofs.Planned.{word-from-put}
use Rattle.points.proofs.NewWord.{new_word_lem, new-word-text, same_bytes}
use Rattle.points.proofs.NewWord.{mixed-text, mixed-copied, mapped-none, mapped-word}

-- where word k goes there is a virtual block
pub fillable-block : (h : Head) (k : ℕ) → Fillable h k → run_first one h.write + k / one.block_words < 256
fillable-block h k f =
    let w = h.write in
    let l = lies one w.offset w.size f.0.0 in
    omega (arith, l.in_file f.0.2, word_in one k (run_blocks one w) f.1)

pub row_is :
    (h : Head) (table : List ℕ) (k from lead size first block : ℕ) → lead ≡ h.write.offset % block_bytes one → size ≡ min h.write.size text_max
    → first ≡ run_first one h.write → block ≡ 8 * k / block_bytes one → (first + block < 256 → from ≡ get_or table (first + block) 0) → Fillable h k
    → record { run = h.write.run; from = from; lead = lead; end = lead + size } ≡ row_of one h table k
row_is h table k from lead size first block el es ef eb em f =
    let at : first + block ≡ run_first one h.write + k / one.block_words = omega arith in
    let s : size ≡ h.write.size = omega (arith, f.0.1) in
    let m : from ≡ get_or table (run_first one h.write + k / one.block_words) 0 = rw (← at) (em (omega (arith, at, fillable-block h k f))) in
    rw (m, s, el)

-- the same row in all of a block
pub row_same : (E : Edition) (h : Head) (table : List ℕ) (j k : ℕ) → j / E.block_words ≡ k / E.block_words → row_of E h table j ≡ row_of E h table k
row_same E h table j k e = rw e

pub few_words : (h : Head) → TextFits h.write → run_words one h.write ≤ 192
few_words h t = omega (arith, (lies one h.write.offset h.write.size t.0).few t.1)

pub in_row : (r : Row) (h : Head) (table : List ℕ) (k : ℕ) → Prepared r h table k → InRow r k
in_row r h table k p =
    rw p.0 (omega (arith, p.1.0.1), omega (arith, p.1.1, few_words h p.1.0))

-- ---- the word

-- all of its bytes are the text's
pub row-text :
    (m : Memory) (r : Row) (h : Head) (table text : List ℕ) (k : ℕ) → Prepared r h table k → r.lead ≤ 8 * k → 8 * k + 8 ≤ r.end
    → new_word one m h table text k ≡ from_bytes (list_from (8 * k - r.lead) 8 (λ i. get_or text i 0))
row-text m r h table text k p lo hi =
    let lead : r.lead ≡ h.write.offset % block_bytes one = ap (λ (x : Row). x.lead) p.0 in
    let end : r.end ≡ h.write.offset % block_bytes one + h.write.size = ap (λ (x : Row). x.end) p.0 in
    new-word-text one m h table text k r.lead lead lo (omega arith)

-- some are copied
by_row :
    (m : Memory) (r : Row) (h : Head) (table text : List ℕ) (k copied i : ℕ) → i ≡ 8 * k / 8 % one.block_words
    → ((j : ℕ) → j < 8 → byte_of copied j ≡ mapped_byte m r.from (8 * i + j)) → Prepared r h table k
    → new_word one m h table text k ≡ from_bytes (list_from (8 * k) 8 (mixed_byte copied text r.lead r.end (8 * k)))
by_row m r h table text k copied i e c p =
    let lead : r.lead ≡ h.write.offset % block_bytes one = ap (λ (x : Row). x.lead) p.0 in
    let end : r.end ≡ r.lead + h.write.size = ap (λ (x : Row). x.end) p.0 ∙ omega arith in
    let from : r.from ≡ get_or table (run_first one h.write + k / one.block_words) 0 = ap (λ (x : Row). x.from) p.0 in
    let l = new_word_lem one m h table text k copied r.lead (run_first one h.write + k / one.block_words) i lead refl (omega arith) (rw from at c) in
    rw end l

-- ---- words in a row

-- the row of word j is that of every word that is filled with it
pub prepared-on :
    (r : Row) (h : Head) (table : List ℕ) (j k m : ℕ) → InOneBlock h j m → r ≡ row_of one h table j → j ≤ k → k < j + m → Prepared r h table k
prepared-on r h table j k m b e lo hi =
    let near = b.1 in
    let same : j / one.block_words ≡ k / one.block_words = omega arith in
    (e ∙ row_same one h table j k same, (b.0, omega (arith, b.2)))

pub filled_none : (E : Edition) (h : Head) (table text : List ℕ) (k m : ℕ) (words : List ℕ) → m ≤ 0 → filled_on E h table text k m words ≡ words
unfolding filled_on
filled_none E h table text k zero words l = refl
filled_none E h table text k (suc m) words l = absurd (omega arith)

pub filled_next :
    (E : Edition) (h : Head) (table text : List ℕ) (k m : ℕ) (words : List ℕ) → 0 < m
    → filled_on E h table text k m words ≡ filled_on E h table text (k + 1) (m - 1) (filled_at E h table text k words)
unfolding filled_on
filled_next E h table text k zero words l = absurd (omega arith)
filled_next E h table text k (suc m) words l = let e : suc m - 1 ≡ m = omega arith in rw (add-one, e)

-- the word stored from the run's first on
pub filled_put :
    (words : List ℕ) (r : Row) (h : Head) (table text : List ℕ) (k value : ℕ) → Prepared r h table k → value ≡ new_word one (memory one words) h table text k
    → put one words (record { block = r.run; word = k; value = value }) ≡ filled_at one h table text k words
unfolding after
filled_put words r h table text k value p e = rw (p.0, e) (word-from-put one words h.write.run k _)

-- words are found by the write's offset and text, and go to its run: its phase and position have no say
pub filled-same :
    (E : Edition) (h : Head) (table text : List ℕ) (k m : ℕ) (words : List ℕ) (phase : Phase) (position zeroing retries : ℕ)
    → filled_on E (writing h (turned h.write phase position zeroing retries)) table text k m words ≡ filled_on E h table text k m words
unfolding filled_on new_word
filled-same E h table text k zero words phase position zeroing retries = refl
filled-same E h table text k (suc m) words phase position zeroing retries =
    filled-same E h table text (suc k) m (filled_at E h table text k words) phase position zeroing retries

-- ---- words that rows store

pub copied_none : (words : List ℕ) (i : ℕ) → copied_word words 0 i ≡ 0
unfolding copied_word
copied_none words i = refl

pub copied-inside : (words : List ℕ) (b i : ℕ) → b ≢ 0 → 64 * b + 64 ≤ length words → i < 64 → get_or words (64 * b + i) 0 ≡ copied_word words b i
unfolding copied_word
copied-inside words zero i some l d = absurd (some refl)
copied-inside words (suc b) i some l d =
    let at : suc b * 64 ≡ 64 * suc b = omega arith in
    let part : block_at (memory one words) (suc b) ≡ take 64 (drop (64 * suc b) words) =
    block-part one words (suc b) (omega arith) ∙ ap (λ (n : ℕ). take 64 (drop n words)) at in
    sym (ap (λ (x : List ℕ). get_or x i 0) part ∙ get_or-take 64 (drop (64 * suc b) words) i 0 d ∙ get_or-drop (64 * suc b) words i 0)

copied-bytes : (words : List ℕ) (b i j : ℕ) → j < 8 → byte_of (copied_word words b i) j ≡ mapped_byte (memory one words) b (8 * i + j)
unfolding copied_word
copied-bytes words zero i j l = mapped-none (memory one words) (8 * i + j) j
copied-bytes words (suc b) i j l = mapped-word (memory one words) (suc b) i j (λ e. absurd (omega (arith, e))) l

-- every byte is the text's; none is; some are
pub mixed-whole : (copied : ℕ) (r : Row) (text : List ℕ) (k : ℕ) → r.lead ≤ 8 * k → 8 * k + 8 ≤ r.end
    → mixed_word copied r text k ≡ from_bytes (list_from (8 * k - r.lead) 8 (λ i. get_or text i 0))
unfolding mixed_word
mixed-whole copied r text k lo hi =
    same_bytes (8 * k) (8 * k - r.lead) 8 (mixed_byte copied text r.lead r.end (8 * k)) (λ i. get_or text i 0) byte
  where
    byte : (j : ℕ) → j < 8 → mixed_byte copied text r.lead r.end (8 * k) (8 * k + j) ≡ get_or text (8 * k - r.lead + j) 0
    byte j l =
        let d : 8 * k + j - r.lead ≡ 8 * k - r.lead + j = omega arith in
        mixed-text copied text r.lead r.end (8 * k) (8 * k + j) (omega arith) (omega arith) ∙ rw d

pub mixed-none : (copied : ℕ) (r : Row) (text : List ℕ) (k : ℕ) → copied < 2 ^ 64 → (8 * k + 8 ≤ r.lead) ⊎ (r.end ≤ 8 * k)
    → mixed_word copied r text k ≡ copied
unfolding mixed_word
mixed-none copied r text k small out = mixed-copied copied text r.lead r.end (8 * k) small out

pub mixed-is : (copied : ℕ) (r : Row) (text : List ℕ) (k at : ℕ) → at ≡ 8 * k
    → from_bytes (list_from at 8 (mixed_byte copied text r.lead r.end at)) ≡ mixed_word copied r text k
unfolding mixed_word
mixed-is copied r text k at e = rw e

-- a row's word is the definition's, where the row is that of a record
pub mixed-new : (m : Memory) (r : Row) (h : Head) (table text : List ℕ) (k copied i : ℕ) → i ≡ 8 * k / 8 % one.block_words
    → ((j : ℕ) → j < 8 → byte_of copied j ≡ mapped_byte m r.from (8 * i + j)) → Prepared r h table k
    → mixed_word copied r text k ≡ new_word one m h table text k
unfolding mixed_word
mixed-new m r h table text k copied i e c p = sym (by_row m r h table text k copied i e c p)

row_new : (words : List ℕ) (r : Row) (h : Head) (table text : List ℕ) (k : ℕ) → Prepared r h table k
    → row_word words r text k ≡ new_word one (memory one words) h table text k
row_new words r h table text k p =
    let i : k % one.block_words ≡ 8 * k / 8 % one.block_words = omega arith in
    mixed-new (memory one words) r h table text k _ (k % one.block_words) i (λ j l. copied-bytes words r.from (k % one.block_words) j l) p

-- ---- what a row leaves of an image

pub stored-off : (r : ℕ) (row : Option Due) (text words : List ℕ) → row ≡ None → row_stored r row text words ≡ words
unfolding row_stored
stored-off r row text words e = rw e

pub stored_on : (r : ℕ) (d : Due) (row : Option Due) (text words : List ℕ) → row ≡ Some d
    → row_stored r row text words ≡ row_put d.row text (d.next + r) words
unfolding row_stored
stored_on r d row text words e = rw e

-- word k of a run is filled; word k of a block becomes 0
pub stored-filled : (r k : ℕ) (d : Due) (row : Option Due) (text words : List ℕ) (h : Head) (table : List ℕ) → row ≡ Some d → k ≡ d.next + r
    → Prepared d.row h table k → row_stored r row text words ≡ filled_at one h table text k words
stored-filled r k d row text words h table on e p =
    stored_on r d row text words on ∙ ap (λ (j : ℕ). row_put d.row text j words) (sym e)
    ∙ filled_put words d.row h table text k _ p (row_new words d.row h table text k p)

pub stored-zero : (r k : ℕ) (d : Due) (row : Option Due) (text words : List ℕ) → row ≡ Some d → k ≡ d.next + r → d.row.from ≡ 0 → 8 * k + 8 ≤ d.row.lead
    → row_stored r row text words ≡ put one words (record { block = d.row.run; word = k; value = 0 })
stored-zero r k d row text words on e none far =
    let i = k % one.block_words in
    let z : copied_word words d.row.from i ≡ 0 = ap (λ (b : ℕ). copied_word words b i) none ∙ copied_none words i in
    let v : row_word words d.row text k ≡ 0 =
    ap (λ (c : ℕ). mixed_word c d.row text k) z ∙ mixed-none 0 d.row text k (omega arith) (inl far) in
    stored_on r d row text words on ∙ ap (λ (j : ℕ). row_put d.row text j words) (sym e)
    ∙ ap (λ (x : ℕ). put one words (record { block = d.row.run; word = k; value = x })) v

-- one row more, one round more
pub round-none : (r : ℕ) (rows : List (Option Due)) (texts : List (List ℕ)) (words : List ℕ) → words ≡ round_stored r 0 rows texts words
unfolding round_stored
round-none r rows texts words = refl

pub round-next : (r i : ℕ) (rows : List (Option Due)) (texts : List (List ℕ)) (words now left : List ℕ) → now ≡ round_stored r i rows texts words
    → left ≡ row_stored r (get_or rows i None) (get_or texts i []) now → left ≡ round_stored r (i + 1) rows texts words
unfolding round_stored
round-next r i rows texts words now left e f =
    rw add-one (f ∙ ap (λ (w : List ℕ). row_stored r (get_or rows i None) (get_or texts i []) w) e)

pub rounds-none : (n : ℕ) (rows : List (Option Due)) (texts : List (List ℕ)) (words : List ℕ) → words ≡ rounds_stored 0 n rows texts words
unfolding rounds_stored
rounds-none n rows texts words = refl

pub rounds-next : (r n : ℕ) (rows : List (Option Due)) (texts : List (List ℕ)) (words now left : List ℕ) → now ≡ rounds_stored r n rows texts words
    → left ≡ round_stored r n rows texts now → left ≡ rounds_stored (r + 1) n rows texts words
unfolding rounds_stored
rounds-next r n rows texts words now left e f = rw add-one (f ∙ ap (λ (w : List ℕ). round_stored r n rows texts w) e)
