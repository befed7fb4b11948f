-- A part that is given to a state.
use Rattle.std.proofs.Common.{◌≡◌, ℕ, zero, suc, List, [], refl, append-nil, ◌+◌, ◌-◌, ◌*◌, ◌/◌, ◌<◌, ◌≤◌, ◌++◌, length, take, drop, sym, ap, ◌∙◌, append_assoc, arith, length-append, length-drop, take-append-drop, length-take-le, le-leb}
use borrow.Author.Tests.{lt-leb}
use Rattle.std.specs.List.{fold}
use Rattle.std.specs.Simd.{first_chunks}
use Rattle.md5_parts.specs.declared.words.Words.{Words}
use Rattle.md5_parts.specs.declared.state.Md5.{Md5}
use Rattle.md5_parts.specs.declared.state.Fed.{Fed}
use Rattle.format.specs.declared.refusal.Reason.TheVariants.{FileTooLong}
use Rattle.format.specs.Bytes.{Bytes}
use Rattle.md5_parts.specs.Md5.{compressed, blocks, hashed, left, padding, digest_of}
use Rattle.format.specs.File.{most_bytes}
use Rattle.format.specs.Outcome.{Refusal, accepted, refused, refusal}
use Rattle.md5_parts.specs.State.{in_block, held, next, taken, fed, digest}
use Rattle.md5_parts.proofs.BlockLaws.{compressed_take, hashed_append, left_append}
use Rattle.md5_parts.proofs.PaddingLaws.{full}

-- Blocks that are cut off are hashed one after another.
chunks_fold : (n : ℕ) (w : Words) (t : Bytes) → 64 * n ≤ length t → fold compressed w (first_chunks 64 n t) ≡ blocks n w t
unfolding blocks
chunks_fold zero w t h = refl
chunks_fold (suc n) w t h =
    let one : compressed w (take 64 t) ≡ compressed w t = compressed_take w t (omega arith) in
    ap (λ (v : Words). fold compressed v (first_chunks 64 n (drop 64 t))) one ∙ chunks_fold n (compressed w t) (drop 64 t) (simp length-drop (omega arith))

-- A part `t` that is added to the state `st`.
module _ (st : Md5) (t : Bytes) where
  abbrev all : Bytes
  all = held st ++ t

  -- Case: together with what is held it is less than a block.
  pub add_short : length t < 64 - length (held st) → (p : Bytes) → p ≡ in_block all
      → ◌≡◌ {A = Md5} (record { words = st.words; pending = p; count = st.count + length t }) (next st t)
  unfolding next blocks
  add_short q p e =
      let none : length all / 64 ≡ 0 = omega (arith, length-append (held st) t) in
      rw (e, none)

  -- Case: they begin with a block. `room` bytes of the part fill it, and the others are cut into blocks and what is left.
  module _ (few : length (held st) < 64) (room : ℕ) (er : room ≡ 64 - length (held st)) (q : room ≤ length t) where
    abbrev first : Bytes
    first = held st ++ take room t

    first_size : length first ≡ 64 * 1
    first_size = omega (arith, length-append (held st) (take room t), length-take-le room t q)

    whole : first ++ drop room t ≡ all
    whole = rw (append_assoc, take-append-drop)

    pub add_long : (h f u : Bytes) → h ≡ held st → f ≡ take room t → u ≡ drop room t → (b : Bytes) → b ≡ in_block (h ++ f) → (v : Words) → v ≡ compressed st.words b
        → (cut : List Bytes) → cut ≡ first_chunks 64 (length u / 64) u → (r : Words) → r ≡ fold compressed v cut
        → (l : Bytes) → l ≡ drop (length u / 64 * 64) u → (p : Bytes) → p ≡ in_block (l ++ [])
        → ◌≡◌ {A = Md5} (record { words = r; pending = p; count = st.count + length t }) (next st t)
    unfolding next blocks
    add_long h f u eh ef eu b eb v ev cut ec r e l el p ep =
        let is : b ≡ first = (rw (eh, ef) at eb) ∙ full first (omega (arith, first_size)) in
        let hashed-on : hashed st.words all ≡ hashed (compressed st.words first) (drop room t) = sym (ap (hashed st.words) whole) ∙ hashed_append 1 first (drop room t) first_size st.words in
        let words : r ≡ hashed st.words all = rw (e, ec, eu, ev, is) (chunks_fold (length (drop room t) / 64) (compressed st.words first) (drop room t) (omega arith) ∙ sym hashed-on) in
        let order : length (drop room t) / 64 * 64 ≡ 64 * (length (drop room t) / 64) = omega arith in
        let rest : l ≡ left all = rw (el, eu, order) (sym (sym (ap left whole) ∙ left_append 1 first (drop room t) first_size)) in
        rw (words, ep, append-nil, rest)

-- A part that is refused, and one that is taken.
module _ (st : Md5) (t : Bytes) where
  pub part_long : most_bytes < st.count + length t → (r : Refusal) → r ≡ refusal FileTooLong 0
      → ◌≡◌ {A = Fed} (record { state = st; answer = refused r }) (fed st t)
  unfolding fed taken
  part_long q r e = rw (lt-leb (st.count + length t) most_bytes q, fed, taken, e)

  pub part_taken : st.count + length t ≤ most_bytes → (n : Md5) → n ≡ next st t → ◌≡◌ {A = Fed} (record { state = n; answer = accepted tt }) (fed st t)
  unfolding fed taken
  part_taken q n e = rw (le-leb (st.count + length t) most_bytes q, fed, taken, e)

-- The digest of a state.
pub digest_made : (st : Md5) (h : Bytes) → h ≡ held st → (v : Words) (d : Bytes) → v ≡ hashed st.words (h ++ padding st.count) → d ≡ digest_of v → d ≡ digest st
unfolding digest
digest_made st h eh v d ev ed = rw (ed, ev, eh)
