-- However a message is cut, its digest is that of the whole.
use Rattle.std.proofs.Common.{◌≡◌, ℕ, ◌+◌, ◌%◌, ◌≤◌, Bool, true, false, leb, List, [], ◌∷◌, ◌++◌, length, refl, ap, ◌∙◌, append_assoc, append-nil, arith, length-append, take_at, le-leb}
use Rattle.md5_parts.specs.declared.state.Md5.{Md5}
use Rattle.md5_parts.specs.declared.state.Fed.{Fed}
use Rattle.format.specs.declared.refusal.Reason.TheVariants.{FileTooLong}
use Rattle.format.specs.Bytes.{Bytes}
use Rattle.md5_parts.specs.Md5.{blocks, start, hashed, left, padding, md5}
use Rattle.format.specs.File.{most_bytes}
use Rattle.format.specs.Outcome.{accepted, refused, refusal}
use Rattle.md5_parts.specs.State.{held, starting, next, fits, taken, fed, digest, fed_all, AllTaken, joined_all, taken_of, CutsAgree}
use Rattle.md5_parts.proofs.BlockLaws.{left_size, hashed_on, left_on}

-- The state `st` is that after the message `s`.
record Holds (st : Md5) (s : Bytes) : Type 0 where
  words : st.words ≡ hashed start s
  rest : held st ≡ left s
  count : st.count ≡ length s

starts : Holds starting []
unfolding blocks
starts = record { words = refl; rest = refl; count = refl }

-- With one part more, it is that after the longer message.
next_holds : (st : Md5) (s t : Bytes) → Holds st s → Holds (next st t) (s ++ t)
unfolding next
next_holds st s t h =
    let more : left (held st ++ t) ≡ left (s ++ t) = rw h.rest (left_on s t) in
    let many : (st.count + length t) % 64 ≡ length (left (s ++ t)) = rw (left_size (s ++ t), length-append, h.count) in
    record {
      words = rw (h.words, h.rest, hashed_on start s t);
      rest = rw (more, many) (take_at (left (s ++ t)) _ _ refl);
      count = rw (length-append, h.count);
    }

-- What comes back for a part that fits, and for one that does not.
pub fed_fits : (st : Md5) (t : Bytes) → fits st t ≡ true → ◌≡◌ {A = Fed} (fed st t) (record { state = next st t; answer = accepted tt })
unfolding fed taken
fed_fits st t e = rw (fed, taken, e)

pub fed_long : (st : Md5) (t : Bytes) → fits st t ≡ false → ◌≡◌ {A = Fed} (fed st t) (record { state = st; answer = refused (refusal FileTooLong 0) })
unfolding fed taken
fed_long st t e = rw (fed, taken, e)

-- Of a message that is not too long, every part is taken.
taken_all : (n : ℕ) (ps : List Bytes) → n + length (joined_all ps) ≤ most_bytes → taken_of n ps ≡ ps
unfolding taken_of joined_all
taken_all n [] h = refl
taken_all n (p ∷ ps) h =
    let size : length (p ++ joined_all ps) ≡ length p + length (joined_all ps) = length-append p (joined_all ps) in
    let fit : leb (n + length p) most_bytes ≡ true = le-leb (n + length p) most_bytes (omega (arith, size)) in
    rw (taken_of, fit) (ap (λ (qs : List Bytes). p ∷ qs) (taken_all (n + length p) ps (omega (arith, size))))

each_taken : (ps : List Bytes) (st : Md5) (s : Bytes) → Holds st s → length s + length (joined_all ps) ≤ most_bytes → AllTaken st ps
unfolding joined_all
each_taken [] st s h short = tt
each_taken (p ∷ ps) st s h short =
    let size : length (p ++ joined_all ps) ≡ length p + length (joined_all ps) = length-append p (joined_all ps) in
    let fit : fits st p ≡ true = le-leb (st.count + length p) most_bytes (omega (arith, size, h.count)) in
    let is = fed_fits st p fit in
    let more : length (s ++ p) ≡ length s + length p = length-append s p in
    rw is (refl, each_taken ps (next st p) (s ++ p) (next_holds st s p h) (omega (arith, size, more)))

-- The state after a part and others: if the part is taken, it is that after the longer message; otherwise the part is
-- passed over.
step_holds : (p : Bytes) (ps : List Bytes) (st : Md5) (s : Bytes) → Holds st s → (b : Bool) → fits st p ≡ b
    → Holds (fed_all (next st p) ps) ((s ++ p) ++ joined_all (taken_of (length (s ++ p)) ps))
    → Holds (fed_all st ps) (s ++ joined_all (taken_of (length s) ps))
    → Holds (fed_all st (p ∷ ps)) (s ++ joined_all (taken_of (length s) (p ∷ ps)))
unfolding fed_all taken_of joined_all
step_holds p ps st s h true e longer same =
    let fit : leb (length s + length p) most_bytes ≡ true = rw h.count at e in
    rw (fed_all, fed_fits st p e, taken_of, fit, joined_all, ← append_assoc, ← length-append) longer
step_holds p ps st s h false e longer same =
    let fit : leb (length s + length p) most_bytes ≡ false = rw h.count at e in
    rw (fed_all, fed_long st p e, taken_of, fit) same

-- The state after parts is that after those of them that are taken.
all_holds : (ps : List Bytes) (st : Md5) (s : Bytes) → Holds st s → Holds (fed_all st ps) (s ++ joined_all (taken_of (length s) ps))
unfolding fed_all taken_of joined_all
all_holds [] st s h = rw append-nil h
all_holds (p ∷ ps) st s h =
    step_holds p ps st s h (fits st p) refl (all_holds ps (next st p) (s ++ p) (next_holds st s p h)) (all_holds ps st s h)

-- The digest of a state is that of its message.
holds_digest : (st : Md5) (s : Bytes) → Holds st s → digest st ≡ md5 s
unfolding digest md5
holds_digest st s h = rw (h.words, h.rest, h.count, hashed_on start s (padding (length s)))

pub cuts_agree : (parts : List Bytes) → CutsAgree parts
cuts_agree parts =
    let those = holds_digest (fed_all starting parts) (joined_all (taken_of 0 parts)) (all_holds parts starting [] starts) in
    record {
      each = λ short. each_taken parts starting [] starts (omega arith);
      whole = λ short. those ∙ ap (λ (ps : List Bytes). md5 (joined_all ps)) (taken_all 0 parts (omega arith));
      those_taken = those;
    }
