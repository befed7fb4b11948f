-- The functions over a caller's bytes: how a state is read and put, and one law for each way in which a part is answered.
use Rattle.std.proofs.Common.{zero, suc, refl, drop-drop, ◌≡◌, List, drop_of_length-le, length-take-le, Bool, true, false, leb, ℕ, ◌+◌, ◌*◌, ◌/◌, ◌%◌, ◌^◌, ◌<◌, ◌≤◌, [], ◌∷◌, ◌++◌, length, get_or, take, drop, replicate, sym, ap, ◌∙◌, append-nil, arith, length-append, length-drop, le-leb}
use borrow.Author.Tests.{lt-leb}
use Rattle.std.proofs.lemmas.Grind.{common_steps}
use Rattle.std.specs.Int.{w64, from_be_bytes}
use Rattle.std.specs.Simd.{first_chunks}
use Rattle.format.specs.declared.refusal.Reason.TheVariants.{BufferTooShort}
use Rattle.format.specs.Bytes.{Bytes, big_endian, number}
use Rattle.format.specs.Fields.{number_bytes}
use Rattle.format.specs.Lent.{placed, writes, leaves}
use Rattle.format.specs.Outcome.{Refusal, Outcome, accepted, refused, refusal, ◌>>=◌}
use Rattle.format.specs.Promise.{Written}
use Rattle.md5_parts.specs.declared.state.Md5.{Md5}
use Rattle.md5_parts.specs.declared.state.Fed.{Fed}
use Rattle.md5_parts.specs.State.{taken, fed, digest}
use Rattle.md5_parts.specs.Kept.{state_bytes, encode_state, decode_state, stored_state, part_bytes, digest_bytes, PartKept}
use Rattle.put.specs.Put.{PutWhole}
use Rattle.put.proofs.PutLaws.{placed_after}
use Rattle.put.proofs.WrittenLaws.{written_refused}
use Rattle.running.proofs.StateBytes.{numbers_size}

-- Bytes that fill a buffer are all of it.
placed_all : (out bytes : Bytes) → length bytes ≡ length out → placed out 0 bytes ≡ bytes
unfolding placed
placed_all out bytes h =
    let fit : leb (0 + length bytes) (length out) ≡ true = le-leb (0 + length bytes) (length out) (omega arith) in
    let none : drop (0 + length bytes) out ≡ [] = drop_of_length-le out {i = 0 + length bytes} (omega arith) in
    rw (placed, fit, none) (append-nil bytes)

-- The numbers are put first, and the block after them.
pub state_put : (st : Md5) (mid after : Bytes) (most r : ℕ) → length st.pending ≡ 64 → (a b c d : ℕ) → a ≡ st.words.a → b ≡ st.words.b → c ≡ st.words.c → d ≡ st.words.d
    → mid ≡ placed (replicate 104 0) 0 (number_bytes (a ∷ b ∷ c ∷ d ∷ st.count ∷ [])) → PutWhole mid after 40 st.pending most r → after ≡ encode_state st
unfolding encode_state
state_put st mid after most r size a b c d ea eb ec ed first put =
    let w = st.words in
    let p = st.pending in
    let n = st.count in
    let begun = rw (ea, eb, ec, ed) at first in
    let numbers : Bytes = number_bytes (w.a ∷ w.b ∷ w.c ∷ w.d ∷ n ∷ []) in
    let whole : length (numbers ++ p) ≡ 104 = length-append numbers p ∙ omega (arith, numbers_size w.a w.b w.c w.d n, size) in
    let all = placed_after (replicate 104 0) mid after 0 40 numbers p begun (numbers_size w.a w.b w.c w.d n) put.buffer (omega arith) in
    all ∙ placed_all (replicate 104 0) (numbers ++ p) whole

-- The library's reading of eight bytes is that of the definition.
from_be_is : (t : Bytes) → length t ≡ 8 → from_be_bytes w64 t ≡ big_endian t
from_be_is t h = grind (arith, common_steps)

-- The `k`th eight bytes.
chunk_is : (n k : ℕ) (t : Bytes) → k < n → get_or (first_chunks 8 n t) k [] ≡ take 8 (drop (8 * k) t)
chunk_is zero k t h = absurd (omega arith)
chunk_is (suc n) zero t h = refl
chunk_is (suc n) (suc k) t h =
    let e : 8 + 8 * k ≡ 8 * suc k = omega arith in
    chunk_is n k (drop 8 t) (omega arith) ∙ ap (take 8) (drop-drop (8 * k) 8 t ∙ ap (λ (m : ℕ). drop m t) e)

-- The numbers of a state are read from its first five times eight bytes.
module _ (s : Bytes) (room : state_bytes ≤ length s) (cut : List Bytes) (e : cut ≡ first_chunks 8 (length s / 8) s) (k : ℕ) (few : k < 5) where
  pub eight_is : get_or cut k [] ≡ take 8 (drop (8 * k) s)
  eight_is = rw e (chunk_is (length s / 8) k s (omega arith))

  pub number_is : (x : ℕ) → x ≡ from_be_bytes w64 (get_or cut k []) → x ≡ number (8 * k) 8 s
  number_is x ex =
      let size : length (get_or cut k []) ≡ 8 = rw eight_is (length-take-le 8 (drop (8 * k) s) (simp length-drop (omega arith))) in
      ex ∙ from_be_is (get_or cut k []) size ∙ ap big_endian eight_is

-- Bytes that are too short for a state, and others.
pub stored_none : (s : Bytes) → length s < state_bytes → (r : Refusal) → r ≡ refusal BufferTooShort 0 → refused r ≡ stored_state s
unfolding stored_state
stored_none s short r e = rw (e, stored_state, lt-leb state_bytes (length s) short)

pub stored_read : (s : Bytes) → state_bytes ≤ length s → (a b c d n : ℕ) (p : Bytes) → a ≡ number 0 8 s % 2 ^ 32 → b ≡ number 8 8 s % 2 ^ 32 → c ≡ number 16 8 s % 2 ^ 32
    → d ≡ number 24 8 s % 2 ^ 32 → n ≡ number 32 8 s → p ≡ take 64 (drop 40 s)
    → ◌≡◌ {A = Outcome Md5} (accepted (record { words = record { a = a; b = b; c = c; d = d }; pending = p; count = n })) (stored_state s)
unfolding stored_state decode_state
stored_read s room a b c d n p ea eb ec ed en ep = rw (stored_state, le-leb state_bytes (length s) room, ea, eb, ec, ed, en, ep)

-- The digest of the state in the bytes.
module _ (b : Bytes) (o : Outcome Md5) (eo : o ≡ stored_state b) where
  pub digest_none : (r : Refusal) → o ≡ refused r → (x : Outcome ℕ) → x ≡ refused r → (out : Bytes) → Written (digest_bytes b) out out x
  unfolding digest_bytes
  digest_none r e x ex out = written_refused (digest_bytes b) out r (rw (digest_bytes, ← eo, e)) x ex

  pub digest_written : (st : Md5) → o ≡ accepted st → (d : Bytes) → d ≡ digest st → (out after : Bytes) (x : Outcome ℕ) → Written (accepted d) out after x
      → Written (digest_bytes b) out after x
  unfolding digest_bytes
  digest_written st e d ed out after x h = rw (digest_bytes, ← eo, e, ← ed) h

  -- A part of which the state is not read.
  module _ (t : Bytes) where
    pub part_none : (r : Refusal) → o ≡ refused r → (x : Outcome (Unit {0})) → x ≡ refused r → PartKept b t b x
    unfolding part_bytes leaves
    part_none r e x ex =
        let out : part_bytes b t ≡ refused r = rw (part_bytes, ← eo, e) in
        rw ex (record { answer = rw out; bytes = rw out })

    module _ (st : Md5) (e : o ≡ accepted st) (f : Fed) (ef : f ≡ fed st t) where
      -- What becomes of the bytes is decided by what the state makes of the part.
      part_is : (p : Outcome Md5) → taken st t ≡ p → part_bytes b t ≡ ◌>>=◌ p (λ n. accepted (encode_state n))
      unfolding part_bytes
      part_is p q = rw (part_bytes, ← eo, e, q)

      -- The part was refused.
      pub part_refused : (r : Refusal) → f.answer ≡ refused r → (x : Outcome (Unit {0})) → x ≡ refused r → PartKept b t b x
      unfolding fed leaves
      part_refused r er x ex = go (taken st t) refl
        where
          go : (p : Outcome Md5) → taken st t ≡ p → PartKept b t b x
          go (refused q) eq =
              let both : refused q ≡ refused r = rw (ef, fed, eq) at er in
              let same : q ≡ r = cc in
              rw (ex, ← same) (record { answer = rw (part_is (refused q) eq); bytes = rw (part_is (refused q) eq) })
          go (accepted n) eq =
              let both : accepted tt ≡ refused r = rw (ef, fed, eq) at er in
              let z : ◌≡◌ {A = ℕ} 0 1 = cc in
              absurd (omega arith)

      -- It was taken, and the next state was written. There is room for it, since there is for the state before.
      module _ (u : Unit {0}) (eu : f.answer ≡ accepted u) (bytes : Bytes) (eb : bytes ≡ encode_state f.state) (size : length bytes ≡ 104)
          (after : Bytes) (x : Outcome ℕ) (put : Written (accepted bytes) b after x) where
        room : (q : Bool) → leb state_bytes (length b) ≡ q → q ≡ true
        unfolding stored_state
        room true h = refl
        room false h =
            let clash : accepted st ≡ refused (refusal BufferTooShort 0) = sym e ∙ eo ∙ rw (stored_state, h) in
            let z : ◌≡◌ {A = ℕ} 0 1 = cc in
            absurd (omega arith)

        fits_is : leb (length bytes) (length b) ≡ true
        fits_is = rw size (room (leb state_bytes (length b)) refl)

        pub part_unwritten : (r : Refusal) → x ≡ refused r → (y : Outcome (Unit {0})) → PartKept b t after y
        unfolding writes
        part_unwritten r er y =
            let clash : refused r ≡ accepted (length bytes) = sym er ∙ put.answer ∙ rw (writes, fits_is) in
            let z : ◌≡◌ {A = ℕ} 0 1 = cc in
            absurd (omega arith)

        pub part_put : PartKept b t after (accepted tt)
        unfolding fed leaves
        part_put = go (taken st t) refl
          where
            go : (p : Outcome Md5) → taken st t ≡ p → PartKept b t after (accepted tt)
            go (accepted n) eq =
                let state : f.state ≡ n = rw (ef, fed, eq) in
                record { answer = rw (part_is (accepted n) eq); bytes = rw (part_is (accepted n) eq, ← state, ← eb) put.buffer }
            go (refused q) eq =
                let both : refused q ≡ accepted u = rw (ef, fed, eq) at eu in
                let z : ◌≡◌ {A = ℕ} 0 1 = cc in
                absurd (omega arith)
