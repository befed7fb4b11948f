-- A state as bytes and back.
use Prim.Native.Nat.{ℕ, ◌+◌, ◌%◌, ◌^◌, ◌≤◌, ◌<◌}
use mathlib.Core.Path.{◌≡◌, refl, sym, ap, ◌∙◌}
use mathlib.Core.List.{[], ◌∷◌, ◌++◌, append_assoc, flat_map}
use native.Mathlib.Nat.{mod-eq_of_lt}
use native.Mathlib.Omega.{arith}
use lib.ListN.{length, take, drop, length-append}
use lib.Seq.{take_at, drop-append-add}
use Rattle.format.specs.Bytes.{Bytes, big_endian, number, to_bytes}
use Rattle.format.specs.Fields.{number_bytes}
use Rattle.format.specs.File.{most_bytes}
use Rattle.format.proofs.PackLaws.{to_bytes_length, big_endian_to_bytes}
use Rattle.md5_parts.specs.declared.state.Md5.{Md5}
use Rattle.md5_parts.specs.Kept.{state_bytes, encode_state, word_at, decode_state}

-- The five numbers of a state take forty bytes.
pub numbers_size : (a b c d n : ℕ) → length (number_bytes (a ∷ b ∷ c ∷ d ∷ n ∷ [])) ≡ 40
unfolding number_bytes flat_map
numbers_size a b c d n = refl

-- The words of a state fit 32 bits, its count is within the limit, and it holds a block.
pub record Sound (st : Md5) : Type 0 where
  pub a : st.words.a < 2 ^ 32
  pub b : st.words.b < 2 ^ 32
  pub c : st.words.c < 2 ^ 32
  pub d : st.words.d < 2 ^ 32
  pub size : length st.pending ≡ 64
  pub count : st.count ≤ most_bytes

-- What comes after a number of eight bytes.
drop_number : (x n : ℕ) (t : Bytes) → drop (8 + n) (to_bytes 8 x ++ t) ≡ drop n t
drop_number x n t = ap (λ (k : ℕ). drop (k + n) (to_bytes 8 x ++ t)) (sym (to_bytes_length 8 x)) ∙ drop-append-add (to_bytes 8 x) t n

-- A number of eight bytes, at the start and after another number.
number_first : (x : ℕ) (t : Bytes) → x < 2 ^ 64 → number 0 8 (to_bytes 8 x ++ t) ≡ x
number_first x t h = ap big_endian (take_at (to_bytes 8 x) t 8 (to_bytes_length 8 x)) ∙ big_endian_to_bytes 8 x ∙ mod-eq_of_lt h

number_later : (x n : ℕ) (t : Bytes) → number (8 + n) 8 (to_bytes 8 x ++ t) ≡ number n 8 t
number_later x n t = ap (λ (u : Bytes). big_endian (take 8 u)) (drop_number x n t)

module _ (a b c d n : ℕ) (p rest : Bytes) where
  -- What comes after each of the five numbers, from the last to the first, and all.
  abbrev after_n : Bytes
  after_n = p ++ rest

  abbrev after_d : Bytes
  after_d = to_bytes 8 n ++ after_n

  abbrev after_c : Bytes
  after_c = to_bytes 8 d ++ after_d

  abbrev after_b : Bytes
  after_b = to_bytes 8 c ++ after_c

  abbrev after_a : Bytes
  after_a = to_bytes 8 b ++ after_b

  abbrev laid : Bytes
  laid = to_bytes 8 a ++ after_a

  laid_out : (number_bytes (a ∷ b ∷ c ∷ d ∷ n ∷ []) ++ p) ++ rest ≡ laid
  unfolding number_bytes flat_map
  laid_out = simp append_assoc refl

  module _ (ha : a < 2 ^ 32) (hb : b < 2 ^ 32) (hc : c < 2 ^ 32) (hd : d < 2 ^ 32) (hn : n < 2 ^ 64) (size : length p ≡ 64) where
    -- The number `x` is read where it was put, and is a word.
    word_is : (at x : ℕ) → x < 2 ^ 32 → number at 8 laid ≡ x → word_at at laid ≡ x
    word_is at x h e = ap (λ (y : ℕ). y % 2 ^ 32) e ∙ mod-eq_of_lt h

    first : word_at 0 laid ≡ a
    first = word_is 0 a ha (number_first a after_a (omega arith))

    second : word_at 8 laid ≡ b
    second = word_is 8 b hb (number_later a 0 after_a ∙ number_first b after_b (omega arith))

    third : word_at 16 laid ≡ c
    third = word_is 16 c hc (number_later a 8 after_a ∙ number_later b 0 after_b ∙ number_first c after_c (omega arith))

    fourth : word_at 24 laid ≡ d
    fourth =
        word_is 24 d hd
        (number_later a 16 after_a ∙ number_later b 8 after_b ∙ number_later c 0 after_c ∙ number_first d after_d (omega arith))

    counted : number 32 8 laid ≡ n
    counted =
        number_later a 24 after_a ∙ number_later b 16 after_b ∙ number_later c 8 after_c ∙ number_later d 0 after_d ∙ number_first n after_n hn

    held_block : take 64 (drop 40 laid) ≡ p
    held_block =
        ap (take 64)
        (drop_number a 32 after_a ∙ drop_number b 24 after_b ∙ drop_number c 16 after_c ∙ drop_number d 8 after_d ∙ drop_number n 0 after_n)
        ∙ take_at p rest 64 size

    decoded : decode_state laid ≡ record { words = record { a = a; b = b; c = c; d = d }; pending = p; count = n }
    unfolding decode_state
    decoded = rw (first, second, third, fourth, counted, held_block)

-- A sound state is read back from its bytes, whatever follows them.
pub decode_encode : (st : Md5) → Sound st → (rest : Bytes) → decode_state (encode_state st ++ rest) ≡ st
unfolding encode_state
decode_encode st h rest =
    ap decode_state (laid_out st.words.a st.words.b st.words.c st.words.d st.count st.pending rest)
    ∙ decoded st.words.a st.words.b st.words.c st.words.d st.count st.pending rest h.a h.b h.c h.d (omega (arith, h.count)) h.size

-- It takes 104 bytes.
pub encode_size : (st : Md5) → length st.pending ≡ 64 → length (encode_state st) ≡ state_bytes
unfolding encode_state
encode_size st h = length-append (number_bytes _) st.pending ∙ omega (arith, h, numbers_size st.words.a st.words.b st.words.c st.words.d st.count)
