-- Trimming removes the spaces around a text, and nothing else.
use Rattle.std.proofs.Common.{◌≡◌, ℕ, zero, suc, ◌≤◌, Bool, true, false, eqb, [], ◌∷◌, ◌++◌, reverse, length, replicate, sym, refl, ap, ◌∙◌, append_assoc, append-nil, add-one, arith, eqb-true}
use mathlib.Core.List.{reverse-cons, reverse-append, reverse-reverse}
use lib.ListN.{length-reverse, replicate-append-replicate}
use Rattle.format.specs.Bytes.{Bytes}
use Rattle.format.specs.Index.{trim_start, trim_end, trim}
use Rattle.format.proofs.ByteLaws.{lacks, lacks_head, lacks_reverse}

-- A text of `n` spaces.
abbrev spaces : ℕ → Bytes
spaces n = replicate n 32

-- Spaces are the same when they are reversed.
reverse_spaces : (n : ℕ) → reverse (spaces n) ≡ spaces n
reverse_spaces zero = refl
reverse_spaces (suc n) =
    reverse-cons 32 (spaces n)
    ∙ ap (λ (s : Bytes). s ++ (32 ∷ [])) (reverse_spaces n)
    ∙ replicate-append-replicate n 1 32
    ∙ ap spaces (add-one n)

-- What `trim_start` removes at the start are spaces.
start_spaces : (s : Bytes) → (n : ℕ) × (s ≡ spaces n ++ trim_start s)
unfolding trim_start
start_spaces [] = (0, refl)
start_spaces (b ∷ s) = go (eqb b 32) refl (start_spaces s)
  where
    go : (x : Bool) → eqb b 32 ≡ x → (n : ℕ) × (s ≡ spaces n ++ trim_start s) → (n : ℕ) × (b ∷ s ≡ spaces n ++ trim_start (b ∷ s))
    go true e i = (suc i.0, rw (e, trim_start) (cc (eqb-true b 32 e)))
    go false e i = (0, rw (e, trim_start))

-- What `trim_end` removes at the end are spaces.
pub end_spaces : (s : Bytes) → (n : ℕ) × (s ≡ trim_end s ++ replicate n 32)
end_spaces s =
    let i = start_spaces (reverse s) in
    let r = trim_start (reverse s) in
    (i.0, sym (reverse-reverse s) ∙ ap reverse i.1 ∙ reverse-append (spaces i.0) r ∙ ap (λ (t : Bytes). reverse r ++ t) (reverse_spaces i.0))

-- `s` is `t` with spaces around it.
pub record Padded (s t : Bytes) : Type 0 where
  pub before : ℕ
  pub after : ℕ
  pub padded : s ≡ replicate before 32 ++ t ++ replicate after 32

-- What `trim` removes are spaces around the text.
pub trim_padded : (s : Bytes) → Padded s (trim s)
trim_padded s =
    let i = start_spaces s in
    let j = end_spaces (trim_start s) in
    record {
      before = i.0;
      after = j.0;
      padded = i.1 ∙ ap (λ (t : Bytes). spaces i.0 ++ t) j.1 ∙ sym (append_assoc (spaces i.0) (trim s) (spaces j.0));
    }

-- `trim_start` removes every space at the start.
start_run : (n : ℕ) (s : Bytes) → trim_start (spaces n ++ s) ≡ trim_start s
unfolding trim_start
start_run zero s = refl
start_run (suc n) s = start_run n s

-- `trim_start` removes nothing if the bytes begin with a text that has no space and is not empty.
start_text : (d z : Bytes) → 1 ≤ length d → lacks 32 d ≡ true → trim_start (d ++ z) ≡ d ++ z
unfolding trim_start
start_text [] z p h = absurd (omega arith)
start_text (b ∷ d) z p h = rw (lacks_head 32 b d h, trim_start)

-- If a text has no space and is not empty, `trim_end` gives it back from the text followed by spaces.
pub end_text : (d : Bytes) (j : ℕ) → 1 ≤ length d → lacks 32 d ≡ true → trim_end (d ++ replicate j 32) ≡ d
end_text d j p h =
    let q : 1 ≤ length (reverse d) = rw length-reverse p in
    let kept : trim_start (reverse d) ≡ reverse d = rw append-nil at (start_text (reverse d) [] q (lacks_reverse 32 d h)) in
    rw (reverse-append, reverse_spaces, start_run, kept) (reverse-reverse d)

-- If a text has no space and is not empty, `trim` gives it back from the text with spaces around it.
pub trim_text : (i : ℕ) (d : Bytes) (j : ℕ) → 1 ≤ length d → lacks 32 d ≡ true → trim (replicate i 32 ++ d ++ replicate j 32) ≡ d
trim_text i d j p h = rw (append_assoc, start_run, start_text d (spaces j)) (end_text d j p h)
