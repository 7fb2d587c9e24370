-- The image that is built, and what opening's reply says of it. Assumes nothing.
use Prim.Native.Nat.{ℕ, zero, suc}
use mathlib.Core.Path.{◌≡◌, refl, ap, ◌∙◌}
use mathlib.Core.List.{List, [], ◌∷◌}
use lib.ListN.{set}
use Rattle.std.specs.Prelude.{is_ok}
use Rattle.words.specs.Edition.{one}
use Rattle.words.specs.Logic.{is_zero}
use Rattle.block_log.specs.declared.Opened.{Opened}
use Rattle.block_log.specs.Opening.{reply_of, open_refusal, opened}
use Rattle.block_log.proofs.Replies.{opened-replies}
use Rattle.small.specs.SmallLogs.{blank, image_with}
use Rattle.small.specs.Tried.{enough, accepts}
use Rattle.small.specs.Computing.{computing}

-- two words set in the log's first slots
slots_set : (a b : ℕ) → set (set blank 66 a) 67 b ≡ image_with (a ∷ b ∷ [])
unfolding computing
slots_set a b = refl

pub image-is : (image : List ℕ) (a b : ℕ) → image ≡ blank → set (set image 66 a) 67 b ≡ image_with (a ∷ b ∷ [])
image-is image a b e = ap (λ (l : List ℕ). set (set l 66 a) 67 b) e ∙ slots_set a b

-- an entry that is not there is an empty slot
no-entry : image_with (0 ∷ 0 ∷ []) ≡ image_with []
unfolding computing
no-entry = refl

one_entry : (e : ℕ) → image_with (e ∷ 0 ∷ []) ≡ image_with (e ∷ [])
unfolding computing
one_entry e = refl

same-image : (es fs : List ℕ) → image_with es ≡ image_with fs → accepts es ≡ accepts fs
unfolding accepts
same-image es fs e = ap (λ (i : List ℕ). is_zero (open_refusal one i enough)) e

pub accepts-none : accepts (0 ∷ 0 ∷ []) ≡ accepts []
accepts-none = same-image (0 ∷ 0 ∷ []) [] no-entry

pub accepts-one : (e : ℕ) → accepts (e ∷ 0 ∷ []) ≡ accepts (e ∷ [])
accepts-one e = same-image (e ∷ 0 ∷ []) (e ∷ []) (one_entry e)

-- opening's reply
module _ (words es : List ℕ) (o : Opened) (i : words ≡ image_with es) (e : o ≡ opened one words enough) where
  replied : o.reply ≡ reply_of (open_refusal one (image_with es) enough)
  replied = ap (λ (x : Opened). x.reply) e ∙ opened-replies one words enough
      ∙ ap (λ (l : List ℕ). reply_of (open_refusal one l enough)) i

  pub replied-ok : is_ok o.reply ≡ accepts es
  unfolding accepts
  replied-ok = ap is_ok replied ∙ go (open_refusal one (image_with es) enough)
    where
      go : (n : ℕ) → is_ok (reply_of n) ≡ is_zero n
      go zero = refl
      go (suc n) = refl
