-- If counts and places are below 2^56, the word of an answer states that answer and no other.
use Rattle.std.proofs.Common.{◌≡◌, ℕ, refl, ap, ◌+◌, ◌/◌, ◌%◌, ◌<◌, ◌≤◌, leb, length, ◌∙◌, arith, le-ltb, lt-ltb, leb-true}
use Rattle.std.specs.Prelude.{Some}
use Rattle.format.specs.declared.refusal.Reason.{Reason}
use Rattle.format.specs.declared.refusal.Reason.TheVariants.{FileTooLong, NotAsdf, VersionMalformed, VersionNotOne, CommentNotEnded, IndexAmongComments, NeitherTreeNorBlock, WrongLineBeforeStart, SecondStartLine, TreeNotEnded, HeaderPassesEnd, HeaderTooSmall, UsedAboveAllocated, DataSizeDiffers, AllocatedPassesEnd, TooManyBlocks, StrayTail, EditWithoutTree, TextNotOneTree, TextLongerThanRoom, BufferTooShort, NoIndexPossible, OutlineLength, OutlineRow, NoSuchBlock}
use Rattle.format.specs.Reason.{reason_number, reason_with}
use Rattle.format.specs.Bytes.{Bytes}
use Rattle.format.specs.Outcome.{Refusal, Outcome, accepted, refused, refusal}
use Rattle.format.specs.Lent.{writes}
use Rattle.format.specs.Export.{least_refusal, word, said, refused_with}
use Rattle.format.specs.Promise.{Returned}
use Rattle.format.proofs.OutcomeLaws.{Accepts, accepts_bind, accepts_need}
use Rattle.format.proofs.NumberedLaws.{reason_positive, Proper, Numbered, numbered_more, numbered_writes}

-- A reason is the one with its number.
reason_back : (x : Reason) → reason_with (reason_number x) ≡ Some x
unfolding reason_with
reason_back FileTooLong = refl
reason_back NotAsdf = refl
reason_back VersionMalformed = refl
reason_back VersionNotOne = refl
reason_back CommentNotEnded = refl
reason_back IndexAmongComments = refl
reason_back NeitherTreeNorBlock = refl
reason_back WrongLineBeforeStart = refl
reason_back SecondStartLine = refl
reason_back TreeNotEnded = refl
reason_back HeaderPassesEnd = refl
reason_back HeaderTooSmall = refl
reason_back UsedAboveAllocated = refl
reason_back DataSizeDiffers = refl
reason_back AllocatedPassesEnd = refl
reason_back TooManyBlocks = refl
reason_back StrayTail = refl
reason_back EditWithoutTree = refl
reason_back TextNotOneTree = refl
reason_back TextLongerThanRoom = refl
reason_back BufferTooShort = refl
reason_back NoIndexPossible = refl
reason_back OutlineLength = refl
reason_back OutlineRow = refl
reason_back NoSuchBlock = refl

-- The word of a refusal is at least `least_refusal`.
pub word_large : (r : Refusal) → least_refusal ≤ word (refused r)
word_large r = let p = reason_positive r.reason in omega arith

-- If the outcome is a count, it is at most `most`.
abbrev pub Counts : ℕ → Outcome ℕ → Type 0
Counts most = Accepts (λ n. n ≤ most)

-- A number below 2^56 states a count.
said_small : (w : ℕ) → w < least_refusal → said w ≡ Some (accepted w)
said_small w h = rw (lt-ltb w least_refusal h, said)

-- Every other number states a refusal, if its top byte is the number of a reason.
refused_by : (x : Reason) (p : ℕ) → refused_with (reason_number x) p ≡ Some (refused (refusal x p))
unfolding refused_with
refused_by x p = rw (refused_with, reason_back x)

said_large : (w : ℕ) (x : Reason) → least_refusal ≤ w → w / least_refusal ≡ reason_number x
    → said w ≡ Some (refused (refusal x (w % least_refusal)))
said_large w x h e =
    rw (le-ltb w least_refusal h, said) (ap (λ n. refused_with n (w % least_refusal)) e ∙ refused_by x (w % least_refusal))

module _ (most : ℕ) (small : most < least_refusal) where
  -- The word of a proper refusal states its reason and its place.
  said_refused : (r : Refusal) → Proper most r → said (word (refused r)) ≡ Some (refused r)
  said_refused r h =
      let positive = reason_positive r.reason in
      let number : word (refused r) / least_refusal ≡ reason_number r.reason = omega (arith, h.place) in
      let place : word (refused r) % least_refusal ≡ r.place.0 = omega (arith, h.place) in
      said_large (word (refused r)) r.reason (omega (arith, positive)) number ∙ rw place

  -- The word of an answer states that answer, if its count is at most `most` or its refusal is proper.
  said_word : (o : Outcome ℕ) → Counts most o → Numbered most o → said (word o) ≡ Some o
  said_word (accepted n) c h = said_small n (omega arith)
  said_word (refused r) c h = said_refused r h

-- If an answer's count is at most `lent`, or its refusal is proper up to `lent`, then `Returned` holds for its word.
pub returned : (o : Outcome ℕ) (lent : ℕ) → Counts lent o → Numbered lent o → (w : ℕ) → w ≡ word o → Returned o lent w
returned o lent c h w e = record { is = e; says = λ small. rw e (said_word lent small o c h) }

-- The same for what a check finds: its number is at most 2, however few bytes were lent.
pub returned_check : (o : Outcome ℕ) (lent : ℕ) → Counts 2 o → Numbered lent o → (w : ℕ) → w ≡ word o → Returned o lent w
returned_check (accepted n) lent c h w e = record { is = e; says = λ small. rw e (said_small n (omega arith)) }
returned_check (refused r) lent c h w e = record { is = e; says = λ small. rw e (said_refused lent small r h) }

module _ (result : Outcome Bytes) (out : Bytes) where
  -- A writer writes no more than its buffer holds.
  writes_few : (lent : ℕ) → length out ≤ lent → Counts lent (writes result out)
  unfolding writes
  writes_few lent l =
      accepts_bind _ result _ λ b e. accepts_need _ (leb (length b) (length out)) BufferTooShort 0 _ λ q. omega (arith, leb-true (length b) (length out) q)

  -- Hence `Returned` holds for the word of a writer's answer, if its result is numbered.
  pub returned_writes : (s : Bytes) → Numbered (length s) result → (w : ℕ) → w ≡ word (writes result out)
      → Returned (writes result out) (length s + length out) w
  returned_writes s h =
      let lent = length s + length out in
      returned (writes result out) lent (writes_few lent (omega arith))
      (numbered_more (length s) lent (writes result out) (omega arith) (numbered_writes (length s) result out h))
