-- The reasons for refusals and their numbers.
use Rattle.std.specs.Prelude.{◌≡◌, map, ℕ, List, [], ◌∷◌, Option, ◌==◌, find}
use Rattle.format.specs.declared.refusal.Reason.{Reason}
use Rattle.format.specs.declared.refusal.Reason.TheVariants.{FileTooLong, NotAsdf, VersionMalformed, VersionNotOne, CommentNotEnded, IndexAmongComments, NeitherTreeNorBlock, WrongLineBeforeStart, SecondStartLine, TreeNotEnded, HeaderPassesEnd, HeaderTooSmall, UsedAboveAllocated, DataSizeDiffers, AllocatedPassesEnd, TooManyBlocks, StrayTail, EditWithoutTree, TextNotOneTree, TextLongerThanRoom, BufferTooShort, NoIndexPossible, OutlineLength, OutlineRow, NoSuchBlock}

-- The number of a reason. docs/REFUSALS.md lists the numbers.
abbrev pub reason_number : Reason → ℕ
reason_number FileTooLong = 1
reason_number NotAsdf = 2
reason_number VersionMalformed = 3
reason_number VersionNotOne = 4
reason_number CommentNotEnded = 5
reason_number IndexAmongComments = 6
reason_number NeitherTreeNorBlock = 7
reason_number WrongLineBeforeStart = 8
reason_number SecondStartLine = 9
reason_number TreeNotEnded = 10
reason_number HeaderPassesEnd = 11
reason_number HeaderTooSmall = 12
reason_number UsedAboveAllocated = 13
reason_number DataSizeDiffers = 14
reason_number AllocatedPassesEnd = 15
reason_number TooManyBlocks = 16
reason_number StrayTail = 17
reason_number EditWithoutTree = 18
reason_number TextNotOneTree = 19
reason_number TextLongerThanRoom = 20
reason_number BufferTooShort = 21
reason_number NoIndexPossible = 22
reason_number OutlineLength = 23
reason_number OutlineRow = 24
reason_number NoSuchBlock = 25

-- All reasons.
abbrev pub reasons : List Reason
reasons =
    FileTooLong ∷ NotAsdf ∷ VersionMalformed ∷ VersionNotOne ∷ CommentNotEnded ∷ IndexAmongComments ∷ NeitherTreeNorBlock
    ∷ WrongLineBeforeStart
    ∷ SecondStartLine
    ∷ TreeNotEnded
    ∷ HeaderPassesEnd
    ∷ HeaderTooSmall
    ∷ UsedAboveAllocated
    ∷ DataSizeDiffers
    ∷ AllocatedPassesEnd
    ∷ TooManyBlocks
    ∷ StrayTail
    ∷ EditWithoutTree
    ∷ TextNotOneTree
    ∷ TextLongerThanRoom
    ∷ BufferTooShort
    ∷ NoIndexPossible
    ∷ OutlineLength
    ∷ OutlineRow
    ∷ NoSuchBlock
    ∷ []

-- The numbers of the reasons, in the order above: 1 to 25.
abbrev pub AreNumbered : Type 0
AreNumbered = map reason_number reasons ≡ 1 ∷ 2 ∷ 3 ∷ 4 ∷ 5 ∷ 6 ∷ 7 ∷ 8 ∷ 9 ∷ 10 ∷ 11 ∷ 12 ∷ 13 ∷ 14 ∷ 15 ∷ 16 ∷ 17 ∷ 18 ∷ 19 ∷ 20 ∷ 21 ∷ 22 ∷ 23 ∷ 24 ∷ 25 ∷ []

-- The reason with the number `n`, if there is one.
unfoldable pub reason_with : ℕ → Option Reason
reason_with n = find (λ r. reason_number r == n) reasons
