-- The law of the running digest carries over to the bytes that a caller keeps.
use Prim.Native.Nat.{ℕ, zero, suc, ◌+◌, ◌-◌, ◌/◌, ◌^◌, ◌≤◌, ◌<◌}
use mathlib.Core.Path.{◌≡◌, refl, sym, ap, ◌∙◌}
use mathlib.Core.Bool.{Bool, true, false}
use mathlib.Core.List.{List, [], ◌∷◌, ◌++◌}
use native.Mathlib.Omega.{arith}
use lib.ListN.{length, drop, replicate, length-append, length-replicate}
use lib.Seq.{drop_at}
use lib.Dec.{leb}
use borrow.Author.Tests.{le-leb, leb-true}
use Rattle.format.specs.Bytes.{Bytes}
use Rattle.format.specs.File.{most_bytes}
use Rattle.format.specs.Lent.{placed, leaves}
use Rattle.format.specs.Outcome.{accepted, refused, refusal, ◌>>=◌, ◌>>◌}
use Rattle.md5_parts.specs.declared.state.Md5.{Md5}
use Rattle.md5_parts.specs.declared.words.Words.{Words}
use Rattle.md5_parts.specs.Md5.{added, compressed, blocks, left}
use Rattle.md5_parts.specs.State.{in_block, held, starting, next, fits, taken, fed, digest, fed_all, AllTaken}
use Rattle.md5_parts.specs.Kept.{state_bytes, encode_state, decode_state, stored_state, part_bytes, digest_bytes, started_in, kept_all, AllKept, KeptCutsAgree}
use Rattle.md5_parts.proofs.BlockLaws.{left_size}
use Rattle.md5_parts.proofs.StateLaws.{fed_fits, fed_long, cuts_agree}
use Rattle.running.proofs.StateBytes.{Sound, decode_encode, encode_size}
use Rattle.format.specs.declared.refusal.Reason.TheVariants.{FileTooLong}

-- Words of 32 bits.
record Small (w : Words) : Type 0 where
  a : w.a < 2 ^ 32
  b : w.b < 2 ^ 32
  c : w.c < 2 ^ 32
  d : w.d < 2 ^ 32

small_compressed : (w : Words) (t : Bytes) → Small (compressed w t)
unfolding compressed added
small_compressed w t = record { a = omega arith; b = omega arith; c = omega arith; d = omega arith }

small_blocks : (n : ℕ) (w : Words) (t : Bytes) → Small w → Small (blocks n w t)
unfolding blocks
small_blocks zero w t h = h
small_blocks (suc n) w t h = small_blocks n (compressed w t) (drop 64 t) (small_compressed w t)

-- What is left after whole blocks, with zeros after it, is a block.
block_size : (t : Bytes) → length (in_block (left t)) ≡ 64
block_size t =
    length-append (left t) (replicate (64 - length (left t)) 0) ∙ omega (arith, left_size t, length-replicate {A = ℕ} (64 - length (left t)) 0)

sound_start : Sound starting
sound_start = record { a = omega arith; b = omega arith; c = omega arith; d = omega arith; size = refl; count = omega arith }

-- A state that takes a part stays sound.
sound_next : (st : Md5) (t : Bytes) → Sound st → fits st t ≡ true → Sound (next st t)
unfolding next
sound_next st t h e =
    let small = small_blocks (length (held st ++ t) / 64) st.words (held st ++ t) (record { a = h.a; b = h.b; c = h.c; d = h.d }) in
    record {
      a = small.a;
      b = small.b;
      c = small.c;
      d = small.d;
      size = block_size (held st ++ t);
      count = leb-true (st.count + length t) most_bytes e;
    }

-- The bytes `b` begin with the sound state `st`.
record Keeps (b : Bytes) (st : Md5) : Type 0 where
  rest : Bytes
  is : b ≡ encode_state st ++ rest
  sound : Sound st

-- Bytes at the start are replaced by as many others.
replaced : (e old rest : Bytes) → length e ≡ length old → leaves (accepted e) (old ++ rest) ≡ e ++ rest
unfolding leaves placed
replaced e old rest h =
    let fit : leb (0 + length e) (length (old ++ rest)) ≡ true = le-leb (0 + length e) (length (old ++ rest)) (omega (arith, length-append old rest)) in
    let after : drop (0 + length e) (old ++ rest) ≡ rest = drop_at old rest (0 + length e) (omega arith) in
    rw (leaves, placed, fit, after)

started : (b : Bytes) → state_bytes ≤ length b → Keeps (started_in b) starting
unfolding leaves placed
started b h =
    let size : length (encode_state starting) ≡ state_bytes = encode_size starting refl in
    let fit : leb (0 + length (encode_state starting)) (length b) ≡ true = le-leb (0 + length (encode_state starting)) (length b) (omega (arith, size)) in
    record { rest = drop (0 + length (encode_state starting)) b; is = rw (leaves, placed, fit); sound = sound_start }

module _ (b : Bytes) (st : Md5) (h : Keeps b st) where
  -- The state is read from the bytes.
  kept_state : decode_state b ≡ st
  kept_state = ap decode_state h.is ∙ decode_encode st h.sound h.rest

  kept_long : leb state_bytes (length b) ≡ true
  kept_long =
      le-leb state_bytes (length b)
      (omega (arith, ap length h.is, length-append (encode_state st) h.rest, encode_size st h.sound.size))

  part_kept : (t : Bytes) → part_bytes b t ≡ ◌>>=◌ (taken st t) (λ n. accepted (encode_state n))
  unfolding part_bytes stored_state
  part_kept t = rw (part_bytes, stored_state, kept_long, kept_state)

  -- After a part, the bytes begin with the state that comes back.
  fed_kept : (t : Bytes) (q : Bool) → fits st t ≡ q → Keeps (leaves (part_bytes b t) b) (fed st t).state
  unfolding taken leaves
  fed_kept t true e =
      let size : length (encode_state (next st t)) ≡ length (encode_state st) =
      encode_size (next st t) (sound_next st t h.sound e).size ∙ sym (encode_size st h.sound.size) in
      let out : part_bytes b t ≡ accepted (encode_state (next st t)) = part_kept t ∙ rw (taken, e) in
      rw (fed_fits st t e) (record {
        rest = h.rest;
        is = rw (out, h.is) (replaced (encode_state (next st t)) (encode_state st) h.rest size);
        sound = sound_next st t h.sound e;
      })
  fed_kept t false e =
      let out : part_bytes b t ≡ refused (refusal FileTooLong 0) = part_kept t ∙ rw (taken, e) in
      rw (fed_long st t e, out) h

  -- If the state takes a part, so do the bytes.
  taken_kept : (t : Bytes) (q : Bool) → fits st t ≡ q → (fed st t).answer ≡ accepted tt → ◌>>◌ (part_bytes b t) (accepted (tt {0})) ≡ accepted tt
  unfolding taken
  taken_kept t true e a = rw (part_kept t, taken, e)
  taken_kept t false e a = let clash = rw (fed_long st t e) at a in let z : ◌≡◌ {A = ℕ} 0 1 = cc in absurd (omega arith)

  digest_kept : digest_bytes b ≡ accepted (digest st)
  unfolding digest_bytes stored_state
  digest_kept = rw (digest_bytes, stored_state, kept_long, kept_state)

-- After all parts, the bytes begin with the state after these parts.
all_kept : (ps : List Bytes) (b : Bytes) (st : Md5) → Keeps b st → Keeps (kept_all b ps) (fed_all st ps)
unfolding kept_all fed_all
all_kept [] b st h = h
all_kept (p ∷ ps) b st h = all_kept ps (leaves (part_bytes b p) b) (fed st p).state (fed_kept b st h p (fits st p) refl)

each_kept : (ps : List Bytes) (b : Bytes) (st : Md5) → Keeps b st → AllTaken st ps → AllKept b ps
each_kept [] b st h a = tt
each_kept (p ∷ ps) b st h a =
    (taken_kept b st h p (fits st p) refl a.0, each_kept ps (leaves (part_bytes b p) b) (fed st p).state (fed_kept b st h p (fits st p) refl) a.1)

pub kept_cuts_agree : (b : Bytes) → state_bytes ≤ length b → (parts : List Bytes) → KeptCutsAgree b parts
kept_cuts_agree b long parts =
    let begin = started b long in
    let told = digest_kept (kept_all (started_in b) parts) (fed_all starting parts) (all_kept parts (started_in b) starting begin) in
    let law = cuts_agree parts in
    record {
      each = λ short. each_kept parts (started_in b) starting begin (law.each short);
      whole = λ short. told ∙ ap accepted (law.whole short);
      those_taken = told ∙ ap accepted law.those_taken;
    }
