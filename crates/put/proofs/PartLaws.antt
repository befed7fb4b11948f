-- Laws about parts that are put one after another.
use Rattle.std.proofs.Common.{◌≡◌, ℕ, suc, ◌+◌, ◌%◌, ◌^◌, ◌<◌, ◌≤◌, List, [], ◌∷◌, ◌++◌, length, get_or, drop, refl, ap, ◌∙◌, add-one, arith, length-append, drop_of_length-le, drop-cons}
use Rattle.format.specs.Bytes.{Bytes}
use Rattle.format.specs.Lent.{placed}
use Rattle.format.specs.Numeral.{decimal}
use Rattle.put.specs.Put.{PutWhole, PutAt, PutDecimals, put_end, most_digits, decimals, most_decimals, decimals_put}
use Rattle.put.proofs.PutLaws.{placed_append, placed_length, placed_nothing}

-- The `n` bytes `bytes`, put at offset `at`, end at `r`.
module _ (out bytes : Bytes) (at n most r : ℕ) (size : n ≡ length bytes) (few : n ≤ most) (end : r ≡ (at + n) % 2 ^ 64) where
  -- If they are placed in the buffer, they are put.
  pub whole_placed : (after : Bytes) → after ≡ placed out at bytes → PutWhole out after at bytes most r
  whole_placed after e = record { buffer = e; end = rw (← size) end; few = omega arith }

-- Bytes that are put whole are put as one part.
pub whole_put : {before after : Bytes} {at : ℕ} {bytes : Bytes} {most r : ℕ} → PutWhole before after at bytes most r → PutAt before after at bytes most r
whole_put {before} {after} {at} {bytes} h =
    record { buffer = λ p q. h.buffer; size = ap length h.buffer ∙ placed_length before at bytes; end = h.end; few = h.few }

-- If nothing is put, the end is the offset itself and the buffer is unchanged.
pub nothing_put : {before : Bytes} {at most : ℕ} → at < 2 ^ 64 → PutAt before before at [] most at
nothing_put {before} {at} h = record { buffer = λ p q. placed_nothing before at (omega arith); size = refl; end = omega arith; few = omega arith }

-- If two parts are put one after the other, they are put as one part.
pub parts_put : {before mid after : Bytes} {at p r : ℕ} {a b : Bytes} {m k : ℕ} → PutAt before mid at a m p → PutAt mid after p b k r
    → PutAt before after at (a ++ b) (m + k) r
parts_put {before} {mid} {after} {at} {p} {r} {a} {b} one two = record {
  buffer = λ h g.
      let both = length-append a b in
      let middle : p ≡ at + length a = omega (arith, one.end) in
      let first : mid ≡ placed before at a = one.buffer (omega arith) (omega arith) in
      let second : after ≡ placed mid p b = two.buffer (omega (arith, one.size)) (omega arith) in
      second ∙ rw (first, middle) (placed_append before at a b (omega arith));
  size = two.size ∙ one.size;
  end = omega (arith, one.end, two.end, length-append a b);
  few = omega (arith, one.few, two.few, length-append a b);
}

-- A part may be replaced by an equal one, and its bound may be higher.
pub put_same : {before after : Bytes} {at r : ℕ} {a b : Bytes} {m k : ℕ} → a ≡ b → m ≤ k → PutAt before after at a m r → PutAt before after at b k r
put_same e h put = rw (← e) (record { buffer = put.buffer; size = put.size; end = put.end; few = omega (arith, put.few) })

-- Numbers that are put one by one do not change the length of the buffer.
decimals_size : (ns : List ℕ) (out : Bytes) (at : ℕ) (between : Bytes) → length (decimals_put out at between ns) ≡ length out
unfolding decimals_put
decimals_size [] out at between = refl
decimals_size (n ∷ []) out at between = placed_length out at (decimal n)
decimals_size (n ∷ m ∷ ns) out at between =
    decimals_size (m ∷ ns) _ _ between ∙ placed_length _ (put_end at (decimal n)) between ∙ placed_length out at (decimal n)

-- If all of them fit, they are put as one text.
decimals_placed : (ns : List ℕ) (out : Bytes) (at : ℕ) (between : Bytes) → at + length (decimals between ns) ≤ length out
    → at + length (decimals between ns) < 2 ^ 64 → decimals_put out at between ns ≡ placed out at (decimals between ns)
unfolding decimals_put decimals
decimals_placed [] out at between h g = placed_nothing out at (omega arith)
decimals_placed (n ∷ []) out at between h g = refl
decimals_placed (n ∷ m ∷ ns) out at between h g =
    let rest = decimals between (m ∷ ns) in
    let two = length-append (decimal n) between in
    let three = length-append (decimal n ++ between) rest in
    let first : put_end at (decimal n) ≡ at + length (decimal n) = omega (arith, two, three) in
    let second : put_end (at + length (decimal n)) between ≡ at + length (decimal n ++ between) = omega (arith, two, three) in
    let both = placed_append out at (decimal n) between (omega (arith, two, three)) in
    let all = placed_append out at (decimal n ++ between) rest (omega (arith, three)) in
    let size = placed_length out at (decimal n ++ between) in
    rw (first, second, both) (decimals_placed (m ∷ ns) _ (at + length (decimal n ++ between)) between (omega (arith, three, size)) (omega (arith, three)) ∙ all)

-- Numbers that are put in decimal are put as one part.
pub decimals_put_lem : {before after : Bytes} {at : ℕ} {between : Bytes} {ns : List ℕ} {r : ℕ} → PutDecimals before after at between ns r
    → PutAt before after at (decimals between ns) (most_decimals between (length ns)) r
decimals_put_lem {before} {after} {at} {between} {ns} put = record {
  buffer = λ h g. put.buffer ∙ decimals_placed ns before at between h g;
  size = ap length put.buffer ∙ decimals_size ns before at between;
  end = put.end;
  few = put.few;
}

-- Two parts that are put one after the other end where they end as one part.
ends_put : (at : ℕ) (a b : Bytes) → put_end (put_end at a) b ≡ put_end at (a ++ b)
ends_put at a b = omega (arith, length-append a b)

-- If a number is put, then the text, and then the numbers that are left, all numbers are put.
next_put : {out mid next after : Bytes} {at q r e : ℕ} {between : Bytes} {n m : ℕ} {ns : List ℕ} → PutWhole out mid at (decimal n) most_digits q
    → PutWhole mid next q between (length between) r → PutDecimals next after r between (m ∷ ns) e → PutDecimals out after at between (n ∷ m ∷ ns) e
unfolding decimals decimals_put
next_put {out} {mid} {next} {after} {at} {q} {r} {e} {between} {n} {m} {ns} number text rest =
    let two = length-append (decimal n) between in
    let three = length-append (decimal n ++ between) (decimals between (m ∷ ns)) in
    let start : next ≡ placed (placed out at (decimal n)) (put_end at (decimal n)) between = text.buffer ∙ rw (number.buffer, number.end) in
    let end : r ≡ put_end (put_end at (decimal n)) between = text.end ∙ rw number.end in
    record {
      buffer = rw (start, end) at rest.buffer;
      end = rest.end ∙ rw (end, ends_put at (decimal n) between, ends_put at (decimal n ++ between) (decimals between (m ∷ ns)));
      few = omega (arith, two, three, number.few, rest.few);
    }

-- What is left after a number, which ends at `end`: nothing, or the text and then the numbers `ns`.
abbrev pub RestPut : Bytes → ℕ → Bytes → List ℕ → Bytes → ℕ → Type 0
RestPut out end between [] after r = (after ≡ out) × (r ≡ end)
RestPut out end between (n ∷ ns) after r =
    (mid : Bytes) × (q : ℕ) × PutWhole out mid end between (length between) q × PutDecimals mid after q between (n ∷ ns) r

-- If a number is put and then what is left, all numbers are put.
rest_put : {out mid after : Bytes} {at q r n : ℕ} {between : Bytes} (ns : List ℕ) → PutWhole out mid at (decimal n) most_digits q
    → RestPut mid q between ns after r → PutDecimals out after at between (n ∷ ns) r
unfolding decimals decimals_put
rest_put [] number rest = rw (rest.0, rest.1) (record { buffer = number.buffer; end = number.end; few = omega (arith, number.few) })
rest_put (m ∷ ns) number rest = next_put number rest.2 rest.3

-- The first number is put, and the first `i` of the others. When what is left is put at `end`, all numbers `ns` are.
pub record Joining (before : Bytes) (at : ℕ) (between : Bytes) (ns others out : List ℕ) (end i : ℕ) : Type 0 where
  pub left : {after : Bytes} {r : ℕ} → RestPut out end between (drop i others) after r → PutDecimals before after at between ns r

-- If there are no numbers, nothing is put.
pub join_none : (before : Bytes) (at : ℕ) (between : Bytes) (ns : List ℕ) → at < 2 ^ 64 → length ns ≡ 0 → PutDecimals before before at between ns at
unfolding decimals decimals_put
join_none before at between [] h e = record { buffer = refl; end = omega arith; few = omega arith }
join_none before at between (n ∷ ns) h e = absurd (omega arith)

module _ (before : Bytes) (at : ℕ) (between : Bytes) (ns others : List ℕ) where
  -- When the first number is put, the others are left.
  pub join_start : (n : ℕ) (mid : Bytes) (q : ℕ) → ns ≡ n ∷ others → PutWhole before mid at (decimal n) most_digits q → Joining before at between ns others mid q 0
  join_start n mid q e number = rw e (record { left = λ rest. rest_put others number rest })

  module _ (out : Bytes) (end i : ℕ) (h : Joining before at between ns others out end i) where
    -- If nothing is left, all numbers are put.
    pub join_done : length others ≤ i → PutDecimals before out at between ns end
    join_done p =
        let nothing : drop i others ≡ [] = drop_of_length-le others p in
        h.left (rw nothing (refl, refl))

    -- When the text and the next number are put, the invariant holds for the numbers after it.
    pub join_step : (mid next : Bytes) (q r : ℕ) → i < length others → PutWhole out mid end between (length between) q
        → PutWhole mid next q (decimal (get_or others i 0)) most_digits r → Joining before at between ns others next r (i + 1)
    join_step mid next q r p text number =
        record {
          left = λ rest.
              let later = rw (add-one i) at rest in
              h.left (rw (drop-cons others i 0 p) (mid, q, text, rest_put (drop (suc i) others) number later));
        }
