-- Laws about the header: one for each return of the functions that read the version and the header.
use Prim.Native.Nat.{ℕ, ◌-◌, ◌≤◌, ◌<◌}
use native.Mathlib.Omega.{arith}
use mathlib.Core.Path.{◌≡◌, refl, sym, ap, ◌∙◌}
use mathlib.Core.Bool.{Bool, true, false, not}
use mathlib.Core.List.{List, [], ◌∷◌, ◌++◌}
use denote.Ref.{Bor}
use Rattle.std.specs.Prelude.{Option, None, Some, leb}
use Rattle.std.proofs.Common.{leb-true}
use Rattle.std.specs.Iterator.{AlwaysYields}
use Rattle.std.proofs.lemmas.Iterator.{YieldsList}
use Rattle.std.specs.Option.{is_some}
use lib.ListN.{length, length-append, take, drop}
use mir.Syntax.{w16}
use mir.Val.{Fits}
use borrow.Author.Tests.{not-true, not-false, eq-eqb, ne_eqb}
use Rattle.format.specs.declared.layout.Version.{Version}
use Rattle.format.specs.declared.layout.Header.{Header as Header·is}
use Rattle.format.specs.declared.refusal.Reason.TheVariants.{NotAsdf, VersionMalformed, VersionNotOne}
use Rattle.format.specs.Bytes.{Bytes, begins}
use Rattle.format.specs.Outcome.{Refusal, Outcome, accepted, refused, refusal}
use Rattle.format.specs.Line.{lines}
use Rattle.format.specs.Numeral.{is_numeral, numeral, both, numerals, split}
use Rattle.format.proofs.ByteLaws.{and_left, and_right}
use Rattle.format.proofs.NumeralLaws.{joined, split_parts}
use Rattle.format.specs.Header as Header
use Rattle.scan.specs.declared.line.Line.{Line}
use Rattle.scan.specs.Line.{LineRead}
use Rattle.scan.specs.Number.{NumeralRead}
use Rattle.scan.proofs.LineLaws.{unended_lines, ended_first}

-- A number of at most four digits fits into 16 bits.
pub part_fits : (p : Bytes) (r : Option ℕ) (x : ℕ) → NumeralRead p 4 r → r ≡ Some x → Fits w16 x
part_fits p r x read e = let few = rw e at read.small in omega arith

-- From the state `s` of an iterator the parts `ps` are left, and a call of `next` leads to the state `u`.
module _ {S : Type 0} {steps : S → Option (Bor Bytes) → S → Type 0} {s : S} {ps : List Bytes} (left : YieldsList steps (λ x. x.now) s ps)
    (r : Option (Bor Bytes)) (u : S) (step : steps s r u) where
  -- If it yields a part, then this is the first that was left, and the others are still left.
  pub next_part : (x : Bor Bytes) → r ≡ Some x → (qs : List Bytes) × (ps ≡ x.now ∷ qs) × YieldsList steps (λ x. x.now) u qs
  next_part x e = go ps left.runs (rw e at step)
    where
      go : (ps : List Bytes) → AlwaysYields steps (λ x. x.now) s ps → steps s (Some x) u
          → (qs : List Bytes) × (ps ≡ x.now ∷ qs) × YieldsList steps (λ x. x.now) u qs
      go [] h k = absurd (h x u k)
      go (p ∷ ps) h k = let m = h.1 x u k in (ps, ap (λ q. q ∷ ps) (sym m.0), record { runs = m.1 })

  -- If it yields none, then no part was left.
  pub no_part : r ≡ None → ps ≡ []
  no_part e = go ps left.runs (rw e at step)
    where
      go : (ps : List Bytes) → AlwaysYields steps (λ x. x.now) s ps → steps s None u → ps ≡ []
      go [] h k = refl
      go (p ∷ ps) h k = absurd (h.0 u k)

  -- Whether it yields a part is whether one was left.
  pub some_part : is_some r ≡ true → (p : Bytes) × (qs : List Bytes) × (ps ≡ p ∷ qs)
  some_part e = go r refl
    where
      go : (o : Option (Bor Bytes)) → r ≡ o → (p : Bytes) × (qs : List Bytes) × (ps ≡ p ∷ qs)
      go None k = let z : ◌≡◌ {A = ℕ} 0 1 = cc (rw k at e) in absurd (omega arith)
      go (Some x) k = let m = next_part x k in (x.now, m.0, m.1)

  pub none_left : is_some r ≡ false → ps ≡ []
  none_left e = go r refl
    where
      go : (o : Option (Bor Bytes)) → r ≡ o → ps ≡ []
      go None k = no_part k
      go (Some x) k = let z : ◌≡◌ {A = ℕ} 0 1 = cc (rw k at e) in absurd (omega arith)

-- If the other parts give no numbers, then all parts together give none.
both_none : (a : Option ℕ) → both a None ≡ None
unfolding both
both_none None = refl
both_none (Some x) = refl

-- One number is no version, and two are none.
one_number : (a : Option ℕ) → Header.version_of (both a (Some [])) ≡ None
unfolding Header.version_of both
one_number None = refl
one_number (Some x) = refl

two_numbers : (a b : Option ℕ) → Header.version_of (both a (both b (Some []))) ≡ None
unfolding Header.version_of both
two_numbers None b = refl
two_numbers (Some x) None = refl
two_numbers (Some x) (Some y) = refl

-- More than three numbers are no version.
four_parts : (a b c d : Option ℕ) (o : Option (List ℕ)) → Header.version_of (both a (both b (both c (both d o)))) ≡ None
unfolding Header.version_of both
four_parts None b c d o = refl
four_parts (Some x) None c d o = refl
four_parts (Some x) (Some y) None d o = refl
four_parts (Some x) (Some y) (Some z) None o = refl
four_parts (Some x) (Some y) (Some z) (Some w) None = refl
four_parts (Some x) (Some y) (Some z) (Some w) (Some ns) = refl

-- A number of a version has at most four digits.
number_few : (p : Bytes) (x : ℕ) → numeral 4 p ≡ Some x → length p ≤ 4
unfolding numeral
number_few p x h =
    leb-true (length p) 4 (and_right (leb 1 (length p)) _ (and_left _ _ (and_left _ _ (go (is_numeral 4 p) refl))))
  where
    go : (y : Bool) → is_numeral 4 p ≡ y → is_numeral 4 p ≡ true
    go true e = e
    go false e = cc

-- Three numbers of at most four digits, joined by points, have at most fourteen bytes. So more bytes are no version.
long_parts : (ps : List Bytes) → 14 < length (joined 46 ps) → Header.version_of (numerals 4 ps) ≡ None
unfolding Header.version_of numerals both joined
long_parts [] h = refl
long_parts (p ∷ []) h = one_number (numeral 4 p)
long_parts (p ∷ q ∷ []) h = two_numbers (numeral 4 p) (numeral 4 q)
long_parts (p ∷ q ∷ r ∷ []) h = go (numeral 4 p) (numeral 4 q) (numeral 4 r) refl refl refl
  where
    go : (a b c : Option ℕ) → numeral 4 p ≡ a → numeral 4 q ≡ b → numeral 4 r ≡ c → Header.version_of (both a (both b (both c (Some [])))) ≡ None
    go None b c e f g = refl
    go (Some x) None c e f g = refl
    go (Some x) (Some y) None e f g = refl
    go (Some x) (Some y) (Some z) e f g =
        let first = number_few p x e in
        let second = number_few q y f in
        let third = number_few r z g in
        absurd (omega (arith, h, length-append p (46 ∷ q ++ (46 ∷ r)), length-append q (46 ∷ r)))
long_parts (p ∷ q ∷ r ∷ w ∷ ws) h = four_parts (numeral 4 p) (numeral 4 q) (numeral 4 r) (numeral 4 w) (numerals 4 ws)

-- If `t` has more than fourteen bytes, then it is no version.
pub version_long : (t : Bytes) → 14 < length t → None ≡ Header.version t
unfolding Header.version
version_long t h =
    let parts = split_parts 46 t in
    sym (long_parts (split 46 t) (rw parts.whole h))

-- If there is no part, then there is no version.
pub version_none : (t : Bytes) → split 46 t ≡ [] → (v : Option Version) → v ≡ None → v ≡ Header.version t
unfolding Header.version Header.version_of numerals
version_none t a v n = n ∙ sym (rw a)

module _ (t p : Bytes) (ps : List Bytes) (a : split 46 t ≡ p ∷ ps) (x : Option ℕ) (major : x ≡ numeral 4 p) where
  -- If the first part is no number, then `t` is no version.
  pub version_major : x ≡ None → (v : Option Version) → v ≡ None → v ≡ Header.version t
  unfolding Header.version Header.version_of numerals both
  version_major e v n = n ∙ sym (rw (a, numerals, ← major, e))

  -- If there is only one part, then `t` is no version.
  pub version_one : ps ≡ [] → (v : Option Version) → v ≡ None → v ≡ Header.version t
  unfolding Header.version Header.version_of numerals both
  version_one e v n = n ∙ sym (rw (a, e) (one_number (numeral 4 p)))

  module _ (q : Bytes) (qs : List Bytes) (b : ps ≡ q ∷ qs) (y : Option ℕ) (minor : y ≡ numeral 4 q) where
    -- If the second part is no number, then `t` is no version.
    pub version_minor : y ≡ None → (v : Option Version) → v ≡ None → v ≡ Header.version t
    unfolding Header.version Header.version_of numerals both
    version_minor e v n = n ∙ sym (rw (a, b, numerals, ← minor, e, both_none))

    -- If there are only two parts, then `t` is no version.
    pub version_two : qs ≡ [] → (v : Option Version) → v ≡ None → v ≡ Header.version t
    unfolding Header.version Header.version_of numerals both
    version_two e v n = n ∙ sym (rw (a, b, e) (two_numbers (numeral 4 p) (numeral 4 q)))

    module _ (r : Bytes) (rs : List Bytes) (c : qs ≡ r ∷ rs) (z : Option ℕ) (patch : z ≡ numeral 4 r) where
      -- If the third part is no number, then `t` is no version.
      pub version_patch : z ≡ None → (v : Option Version) → v ≡ None → v ≡ Header.version t
      unfolding Header.version Header.version_of numerals both
      version_patch e v n = n ∙ sym (rw (a, b, c, numerals, ← patch, e, both_none, both_none))

      -- If there is a fourth part, then `t` is no version.
      pub version_more : (w : Bytes) (ws : List Bytes) → rs ≡ w ∷ ws → None ≡ Header.version t
      unfolding Header.version numerals
      version_more w ws d = sym (rw (a, b, c, d) (four_parts (numeral 4 p) (numeral 4 q) (numeral 4 r) (numeral 4 w) (numerals 4 ws)))

      -- If there are three parts and each is a number, then these three numbers are the version.
      pub version_read : rs ≡ [] → (i j k : ℕ) → x ≡ Some i → y ≡ Some j → z ≡ Some k → Some (record { major = i; minor = j; patch = k }) ≡ Header.version t
      unfolding Header.version Header.version_of numerals both
      version_read d i j k e f g = sym (rw (a, b, c, d, numerals, ← major, ← minor, ← patch, e, f, g))

module _ (s : Bytes) (b : Bool) (h : b ≡ begins Header.token s) where
  -- If the file does not begin with the token, then it is refused with number 2 at place 0.
  pub header_token : (y : Refusal) → not b ≡ true → y ≡ refusal NotAsdf 0 → refused y ≡ Header.header s
  unfolding Header.header
  header_token y p q = rw (← h, not-true b p) (ap refused q)

  module _ (p : not b ≡ false) (r : Option Line) (read : LineRead s 6 r) where
    -- If the file begins with the token, then the line of the version follows and decides the header.
    header_line : Header.header s ≡ Header.version_line (lines (drop 6 s))
    unfolding Header.header
    header_line = rw (← h, not-false b p)

    -- If that line does not end, then the header is refused with number 3 at place 6.
    pub header_unended : (y : Refusal) → r ≡ None → y ≡ refusal VersionMalformed 6 → (x : Outcome Header·is) → x ≡ refused y → x ≡ Header.header s
    unfolding Header.version_line
    header_unended y e q x h = rw (header_line, unended_lines s 6 r read e) (h ∙ ap refused q)

    module _ (l : Line) (e : r ≡ Some l) (v : Option Version) (k : v ≡ Header.version (take (l.text_end - 6) (drop 6 s))) where
      -- If that line ends, then the header is the one with the version in that line.
      header_version : Header.header s ≡ Header.header_of v l.ending l.next
      unfolding Header.version_line
      header_version =
          let first = ended_first s 6 r read l e in
          header_line ∙ rw (first.cut, k, ← first.next_is)

      -- If the line is no version, then the header is refused with number 3 at place 6.
      pub header_malformed : (y : Refusal) → v ≡ None → y ≡ refusal VersionMalformed 6 → (x : Outcome Header·is) → x ≡ refused y → x ≡ Header.header s
      unfolding Header.header_of
      header_malformed y d q x h = rw (header_version, d) (h ∙ ap refused q)

      module _ (w : Version) (d : v ≡ Some w) where
        -- If the first number of the version is not 1, then the header is refused with number 4 at place 6.
        pub header_other : (y : Refusal) → (w.major ≡ 1 → ⊥) → y ≡ refusal VersionNotOne 6 → refused y ≡ Header.header s
        unfolding Header.header_of
        header_other y n q = rw (header_version, d, ne_eqb w.major 1 n) (ap refused q)

        -- If the first number of the version is 1, then the header is read.
        pub header_read : w.major ≡ 1 → accepted (record { version = w; line_end = l.ending; end = record { 0 = l.next } }) ≡ Header.header s
        unfolding Header.header_of
        header_read n = rw (header_version, d, eq-eqb w.major 1 n)
