-- Why a call is turned down: the number of each reason in document 01, and a reply by that number.
use Rattle.std.specs.Prelude.{ℕ, true, false, List, [], ◌∷◌, eqb, Result, Ok, Err}
use Rattle.block_log.specs.declared.Refusal.{Refusal}
use Rattle.block_log.specs.declared.Refusal.TheVariants.{ImageSize, ScratchShort, SuperblockWrong, LogIndexOutside, ChainEndless, LogBlockWrong}
use Rattle.block_log.specs.declared.Refusal.TheVariants.{EntryWrong, BlockShared, EndNotZero}
use Rattle.block_log.specs.declared.Refusal.TheVariants.{SharedUnfit, RecordUnfit, NumberAbove, AlreadyJoined, NotJoined, WrongPhase, TextSize}
use Rattle.block_log.specs.declared.Refusal.TheVariants.{PastEnd, LogBroken}
use Rattle.block_log.specs.declared.Refusal.TheVariants.{NoRun, LogFull, NoLogBlock, NotMapped, NotOneEach, ListedTwice}

-- the number of a reason in document 01
abbrev pub number : Refusal → ℕ
number ImageSize = 1
number ScratchShort = 2
number SuperblockWrong = 3
number LogIndexOutside = 4
number ChainEndless = 5
number LogBlockWrong = 6
number EntryWrong = 7
number BlockShared = 8
number EndNotZero = 9
number SharedUnfit = 10
number RecordUnfit = 11
number NumberAbove = 12
number AlreadyJoined = 13
number NotJoined = 14
number WrongPhase = 15
number TextSize = 16
number PastEnd = 17
number LogBroken = 18
number NoRun = 19
number LogFull = 20
number NoLogBlock = 21
number NotMapped = 22
number NotOneEach = 26
number ListedTwice = 27

-- all reasons
abbrev pub refusals : List Refusal
refusals =
    ImageSize ∷ ScratchShort ∷ SuperblockWrong ∷ LogIndexOutside ∷ ChainEndless ∷ LogBlockWrong ∷ EntryWrong ∷ BlockShared ∷ EndNotZero
    ∷ SharedUnfit ∷ RecordUnfit ∷ NumberAbove ∷ AlreadyJoined ∷ NotJoined ∷ WrongPhase ∷ TextSize ∷ PastEnd ∷ LogBroken
    ∷ NoRun ∷ LogFull ∷ NoLogBlock ∷ NotMapped ∷ NotOneEach ∷ ListedTwice
    ∷ []

-- the reason with this number. Other numbers are no reason's, and stand for the last
abbrev pub numbered : ℕ → List Refusal → Refusal
numbered n [] = ListedTwice
numbered n (r ∷ rs) = elim (eqb (number r) n) [ true ↦ r | false ↦ numbered n rs ]

abbrev pub refusal : ℕ → Refusal
refusal n = numbered n refusals

-- the reply of a call that is done, and of one that is turned down for the reason with this number
abbrev pub Reply : Type 0
Reply = Result (Unit {0}) Refusal

abbrev pub Done : Reply
Done = Ok tt

abbrev pub Refused : ℕ → Reply
Refused n = Err (refusal n)
