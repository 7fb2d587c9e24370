-- A read: it holds nothing and stores nothing, so only the point's own part is to be shown. It begins with no word copied; a word is copied as the point's
-- own view shows it, which is the file's byte wherever READ claims one; its last step catches up, and begins again or leaves the point idle.
use mathlib.Core.Path.{◌≡◌, refl, sym, ap, ◌∙◌}
use mathlib.Core.Logic.{◌⊎◌, inl, inr}
use mathlib.Core.List.{List, []}
use mathlib.Core.Bool.{true}
use Prim.Native.Nat.{ℕ, ◌+◌, ◌*◌, ◌-◌, ◌/◌, ◌≤◌, ◌<◌}
use native.Mathlib.Omega.{arith}
use native.Mathlib.Decide.{dec_lt}
use lib.ListN.{get_or, get_or-eq_default}
use Rattle.words.specs.Edition.{Edition, block_bytes, file_end}
use Rattle.words.proofs.Tests.{no_true}
use Rattle.block_log.proofs.Shown.{shown}
use Rattle.block_log.proofs.Cover.{View, apply_all, Clear, apply-clear}
use Rattle.recovery.specs.Book.{Book}
use Rattle.recovery.proofs.Model.LogPlace.{LogEnd, LogPlace, place_at}
use Rattle.recovery.proofs.Model.Use.{Use}
use Rattle.recovery.proofs.Model.State.{ReadState, Work, State}
use Rattle.recovery.proofs.Model.Invariant.{FileInv, ReadInv, PlaceInv, PointInv, Inv, WorkInv, AtEnd, Held, Empty, at_tail}
use Rattle.recovery.proofs.Model.Frame.{quiet_none, made}
use Rattle.recovery.proofs.Model.Keep.{hold-inv, holds-nothing, stay}

-- ---- a point that holds nothing takes up other work that holds nothing

module _ {E : Edition} {L : List ℕ} (st : State) (bk : Book) (h : Inv E L st bk) (p : ℕ) (joined : st.joined p ≡ true)
    (empty : Empty E (st.points p).work) (work : Work) where
  abbrev pi : PointInv E st.image st.blocks h.own h.tail h.cur p (bk.note p) (st.points p)
  pi = h.points p joined

  holds : Held E h.own (st.joined p) p work
  holds = holds-nothing E h.own (st.joined p) p work (λ b e. empty.run b ((h.held p).run b e).1) (λ b e. empty.zero b ((h.held p).zero b e).1)

  -- where it stands
  pub there-inv : AtEnd E h.tail (st.points p).place work
      → WorkInv E st.image h.own h.cur p pi.ahead (bk.note p) (st.points p).view.size work
      → Inv E L (made st st.image st.taken st.joined st.chain p (record { view = (st.points p).view; place = (st.points p).place; work = work })) bk
  there-inv ended inv =
      hold-inv st bk bk h p (quiet_none p h.core.image) st.taken st.joined _ h.map refl (λ q n. refl) (λ q n. refl) holds
      (λ a. absurd (no_true joined a)) (λ x. stay pi pi.place ended inv)

  -- caught up
  pub caught-inv : AtEnd E h.tail (place_at h.tail) work → WorkInv E st.image h.own h.cur p [] (bk.note p) h.cur.size work
      → Inv E L
      (made st st.image st.taken st.joined st.chain p
      (record { view = apply_all E pi.ahead (st.points p).view; place = place_at h.tail; work = work })) bk
  caught-inv ended inv =
      rw pi.place.catches
      (hold-inv st bk bk h p (quiet_none p h.core.image) st.taken st.joined _ h.map refl (λ q n. refl) (λ q n. refl) holds
      (λ a. absurd (no_true joined a)) (λ x. record { number = pi.number; ahead = []; place = at_tail h.core; at_end = ended; work = inv }))

-- ---- what is claimed of the text

-- of a read as it begins: nothing
pub fresh-read : (E : Edition) (I : List ℕ) (cur : View) (es : List ℕ) (size o n : ℕ) (text : List ℕ) → 1 ≤ n → n ≤ 1024 → o + n ≤ file_end E
    → ReadInv E I cur es size (record { offset = o; size = n; pos = 0; text = text })
fresh-read E I cur es size o n text some few ends = record {
  some = some;
  few = few;
  ends = ends;
  place = omega arith;
  copied = λ v q hv hq a b c clear still. absurd (omega arith);
}

-- the byte that a point sees by its own view: 0 from the view's length on
abbrev pub Sees : Edition → List ℕ → View → ℕ → ℕ → ℕ → Type 0
Sees E I view v q x =
    (block_bytes E * v + q < view.size → x ≡ shown E I view.table v q) × (view.size ≤ block_bytes E * v + q → x ≡ 0)

module _ {E : Edition} {I : List ℕ} {B : ℕ} {own : ℕ → Use} {t : LogEnd} {cur : View} {F : List ℕ} {es : List ℕ} {l : LogPlace} {view : View}
    (file : FileInv E I cur F) (place : PlaceInv E I B own t cur es l view) where
  -- past the file's end it shows zeros
  past_end : (v q : ℕ) → v < 256 → q < block_bytes E → cur.size ≤ block_bytes E * v + q → shown E I cur.table v q ≡ 0
  past_end v q hv hq far = sym (file.file_bytes v q hv hq) ∙ get_or-eq_default F 0 (omega (arith, file.file_length))

  -- where no entry ahead covers the block, and the file is no longer than the view or the range ends before that, this is the file's byte
  own-byte : (v q x end : ℕ) → v < 256 → q < block_bytes E → block_bytes E * v + q < end → Sees E I view v q x → Clear es v
      → (cur.size ≤ view.size) ⊎ (end ≤ view.size) → x ≡ shown E I cur.table v q
  own-byte v q x end hv hq inside sees clear still = go (dec_lt (block_bytes E * v + q) view.size) still
    where
      mapped : get_or cur.table v 0 ≡ get_or view.table v 0
      mapped = ap (λ (y : View). get_or y.table v 0) (sym place.catches) ∙ apply-clear E es view v clear

      go : Dec (block_bytes E * v + q < view.size) → (cur.size ≤ view.size) ⊎ (end ≤ view.size) → x ≡ shown E I cur.table v q
      go (yes k) s = sees.0 k ∙ rw mapped
      go (no k) (inl s) = sees.1 (omega arith) ∙ sym (past_end v q hv hq (omega arith))
      go (no k) (inr s) = absurd (omega arith)

  -- one word more
  pub copy_read : (r : ReadState) (text : List ℕ) → ReadInv E I cur es view.size r → r.pos < (r.offset + r.size - 1) / 8 - r.offset / 8 + 1
      → ((at : ℕ) → r.offset ≤ at → at / 8 < r.offset / 8 + r.pos → get_or text (at - r.offset) 0 ≡ get_or r.text (at - r.offset) 0)
      → ((v q : ℕ) → v < 256 → q < block_bytes E → r.offset ≤ block_bytes E * v + q → block_bytes E * v + q < r.offset + r.size
      → (block_bytes E * v + q) / 8 ≡ r.offset / 8 + r.pos → Sees E I view v q (get_or text (block_bytes E * v + q - r.offset) 0))
      → ReadInv E I cur es view.size (record { offset = r.offset; size = r.size; pos = r.pos + 1; text = text })
  copy_read r text h more kept new = record {
    some = h.some;
    few = h.few;
    ends = h.ends;
    place = omega arith;
    copied = λ v q hv hq a b c clear still. go v q hv hq a b c clear still (dec_lt ((block_bytes E * v + q) / 8) (r.offset / 8 + r.pos));
  }
    where
      go : (v q : ℕ) → v < 256 → q < block_bytes E → r.offset ≤ block_bytes E * v + q → block_bytes E * v + q < r.offset + r.size
          → (block_bytes E * v + q) / 8 < r.offset / 8 + (r.pos + 1) → Clear es v → (cur.size ≤ view.size) ⊎ (r.offset + r.size ≤ view.size)
          → Dec ((block_bytes E * v + q) / 8 < r.offset / 8 + r.pos)
          → get_or text (block_bytes E * v + q - r.offset) 0 ≡ shown E I cur.table v q
      go v q hv hq a b c clear still (yes d) = kept (block_bytes E * v + q) a d ∙ h.copied v q hv hq a b d clear still
      go v q hv hq a b c clear still (no d) =
          own-byte v q (get_or text (block_bytes E * v + q - r.offset) 0) (r.offset + r.size) hv hq b
          (new v q hv hq a b (omega arith)) clear still
