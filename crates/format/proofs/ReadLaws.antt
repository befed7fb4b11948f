-- What is read of bytes is a front part of them. It ends within them, and reads the same at another offset and with
-- other bytes after it.
use Rattle.std.proofs.Common.{◌≡◌, ℕ, suc, ◌+◌, ◌≤◌, true, false, [], ◌∷◌, ◌++◌, length, drop, sym, refl, ap, ◌∙◌, subst, append_assoc, add-zero, add_assoc, arith, length-append, length-drop}
use Rattle.std.specs.Prelude.{Option, None, Some}
use Rattle.format.specs.declared.layout.Version.{Version}
use Rattle.format.specs.declared.layout.Header.{Header}
use Rattle.format.specs.declared.layout.Tree.{Tree}
use Rattle.format.specs.declared.line.LineEnd.{LineEnd}
use Rattle.format.specs.declared.line.LineEnd.TheVariants.{Lf, Crlf}
use Rattle.format.specs.Bytes.{Bytes, text, begins, same}
use Rattle.format.specs.Outcome.{Outcome, accepted, refused}
use Rattle.format.specs.Line.{line_end, Lines, unended, line, after_line, lines}
use Rattle.format.specs.Header.{token, version, header_of, version_line, header}
use Rattle.format.specs.Comments.{index_line, comments}
use Rattle.format.specs.Tree.{yaml_line, end_line, is_start, is_directive, content, directives, tree_end, mark, free_space, with_room, tree}
use Rattle.format.specs.File.{first_block}
use Rattle.format.proofs.OutcomeLaws.{Accepts, accepted_holds, accepts_bind, accepts_need, accepts_choice, accepts_each, choice}
use Rattle.format.proofs.ByteLaws.{begins_true}
use Rattle.format.proofs.LineLaws.{join_lines, join_lines_lem, AreLines, lines_line, are_lines}

-- A way to read bytes from one offset up to another.
abbrev pub Reading : Type 1
Reading = ℕ → Bytes → ℕ → Type 0

-- A front part of `s`, which begins at offset `n`, is read up to offset `m`. It reads the same from any offset, with
-- anything after it that may come next.
pub record Front (Next : Bytes → Type 0) (reads : Reading) (n : ℕ) (s : Bytes) (m : ℕ) : Type 0 where
  pub front : Bytes
  pub rest : Bytes
  pub whole : s ≡ front ++ rest
  pub end : m ≡ n + length front
  pub next : Next rest
  pub local : (k : ℕ) (z : Bytes) → Next z → reads k (front ++ z) (k + length front)

-- An offset `m` from `low` to `high`.
pub record Between (low high m : ℕ) : Type 0 where
  pub above : low ≤ m
  pub below : m ≤ high

-- What is read ends no earlier than it begins, and within the bytes.
pub front_bounds : {Next : Bytes → Type 0} {reads : Reading} {n : ℕ} {s : Bytes} {m : ℕ} → Front Next reads n s m → Between n (n + length s) m
front_bounds f = omega (arith, f.end, simp length-append at (ap length f.whole))

module _ (Next : Bytes → Type 0) (reads : Reading) (n : ℕ) where
  -- If `reads` may stop immediately wherever `Next` holds, and `Next` holds for `s`, the empty front part of `s` is
  -- read.
  front_none : (s : Bytes) → Next s → ((k : ℕ) (z : Bytes) → Next z → reads k z k) → Front Next reads n s n
  front_none s h here = record { front = []; rest = s; whole = refl; end = omega arith; next = h; local = λ k z q. rw add-zero (here k z q) }

  -- If `reads` continues as `then` after `p`, and `then` reads a front part of `s`, then `reads` reads `p` followed by
  -- that part.
  front_after : (then : Reading) (p s : Bytes) (m : ℕ) → ((k : ℕ) (z : Bytes) (j : ℕ) → then (k + length p) z j → reads k (p ++ z) j)
      → Front Next then (n + length p) s m → Front Next reads n (p ++ s) m
  front_after then p s m step f = record {
    front = p ++ f.front;
    rest = f.rest;
    whole = rw (append_assoc, ← f.whole);
    end = simp length-append (omega (arith, f.end));
    next = f.next;
    local = λ k z q. rw (append_assoc, length-append, ← add_assoc) (step k (f.front ++ z) _ (f.local (k + length p) z q));
  }

-- The same with the text of a line and its line end in place of `p`.
front_line : (Next : Bytes → Type 0) (reads then : Reading) (n : ℕ) (t : Bytes) (e : LineEnd) (s : Bytes) (m : ℕ)
    → ((k : ℕ) (z : Bytes) (j : ℕ) → then (after_line k t e) z j → reads k (t ++ (line_end e ++ z)) j)
    → Front Next then (after_line n t e) s m → Front Next reads n (t ++ (line_end e ++ s)) m
front_line Next reads then n t e s m step f =
    rw append_assoc at (front_after Next reads n then (t ++ line_end e) s m line_step (rw (length-append, ← add_assoc) f))
  where
    line_step : (k : ℕ) (z : Bytes) (j : ℕ) → then (k + length (t ++ line_end e)) z j → reads k (t ++ line_end e ++ z) j
    line_step k z j h = rw append_assoc (step k z j (rw (length-append, ← add_assoc) at h))

-- The reading in which `reader` ends at offset `m`.
abbrev pub Ends : (ℕ → Lines → Outcome ℕ) → Reading
Ends reader n s m = reader n (lines s) ≡ accepted m

-- The reading of a tree that ends at offset `m`.
abbrev pub TreeEnds : Reading
TreeEnds n s m = tree_end n (lines s) ≡ accepted (Some m)

-- The reading that reads nothing more.
abbrev Stops : Reading
Stops n s m = n ≡ m

-- Anything may come next.
abbrev pub Any : Bytes → Type 0
Any z = Unit {0}

-- No comment comes next.
abbrev pub NoComment : Bytes → Type 0
NoComment z = begins (text "#") z ≡ false

-- After a line nothing more is read.
stopped : (n : ℕ) (t : Bytes) (e : LineEnd) (l : Lines) → Front Any Stops (after_line n t e) (join_lines l) (after_line n t e)
stopped n t e l = front_none Any Stops (after_line n t e) (join_lines l) tt (λ k z h. refl)

-- If everything that `reader` accepts after a line is a front part, the same holds with the line before it.
accepts_line : (Next : Bytes → Type 0) (reads : Reading) (reader : ℕ → Lines → Outcome ℕ) (n : ℕ) (t : Bytes) (e : LineEnd) (l : Lines)
    → ((k : ℕ) (z : Bytes) (j : ℕ) → Ends reader (after_line k t e) z j → reads k (t ++ (line_end e ++ z)) j)
    → Accepts (Front Next (Ends reader) (after_line n t e) (join_lines l)) (reader (after_line n t e) l)
    → Accepts (Front Next reads n (t ++ (line_end e ++ join_lines l))) (reader (after_line n t e) l)
accepts_line Next reads reader n t e l step = on (reader (after_line n t e) l)
  where
    on : (o : Outcome ℕ) → Accepts (Front Next (Ends reader) (after_line n t e) (join_lines l)) o → Accepts (Front Next reads n (t ++ (line_end e ++ join_lines l))) o
    on (accepted m) f = front_line Next reads (Ends reader) n t e (join_lines l) m step f
    on (refused r) f = tt

-- What `content` reads, the lines of a tree after its start line, is a front part of the bytes of the lines.
content_lines : (n : ℕ) (l : Lines) → AreLines l → Accepts (Front Any (Ends content) n (join_lines l)) (content n l)
unfolding content join_lines
content_lines n (unended t) a = tt
content_lines n (line t e l) a =
    accepts_choice _ (same t end_line) _ _
    (λ q. front_line Any (Ends content) Stops n t e (join_lines l) _ (λ k z j h. rw (lines_line t e z a.0, q, content) (ap accepted h)) (stopped n t e l))
    λ q. accepts_choice _ (is_start t) _ _ (λ r. tt)
    λ r. accepts_line Any (Ends content) content n t e l (λ k z j h. rw (lines_line t e z a.0, q, content, r) h) (content_lines (after_line n t e) l a.1)

-- What `directives` reads, the lines of a tree after its first line, is a front part of the bytes of the lines.
directives_lines : (n : ℕ) (l : Lines) → AreLines l → Accepts (Front Any (Ends directives) n (join_lines l)) (directives n l)
unfolding directives join_lines
directives_lines n (unended t) a = tt
directives_lines n (line t e l) a =
    accepts_choice _ (is_start t) _ _
    (λ q. accepts_line Any (Ends directives) content n t e l (λ k z j h. rw (lines_line t e z a.0, q, directives) h)
    (content_lines (after_line n t e) l a.1))
    λ q. accepts_choice _ (is_directive t) _ _
    (λ r. accepts_line Any (Ends directives) directives n t e l (λ k z j h. rw (lines_line t e z a.0, q, directives, r) h)
    (directives_lines (after_line n t e) l a.1))
    (λ r. tt)

-- There is no tree, or the tree is a front part.
abbrev TreeFront : ℕ → Bytes → Option ℕ → Type 0
TreeFront n s None = Unit {0}
TreeFront n s (Some m) = Front Any TreeEnds n s m

-- A tree, if there is one, is a front part of the bytes of its lines.
tree_lines : (n : ℕ) (l : Lines) → AreLines l → Accepts (TreeFront n (join_lines l)) (tree_end n l)
unfolding tree_end join_lines
tree_lines n (unended t) a = tt
tree_lines n (line t e l) a =
    accepts_choice _ (same t yaml_line) _ _
    (λ q. accepts_bind _ (directives (after_line n t e) l) _
    λ m h. front_line Any TreeEnds (Ends directives) n t e (join_lines l) m (λ k z j r. rw (lines_line t e z a.0, q, tree_end, r))
    (accepted_holds _ _ m (directives_lines (after_line n t e) l a.1) h))
    (λ q. tt)

-- A line begins with `#` exactly if its text does.
hash_line : (t : Bytes) (e : LineEnd) (s : Bytes) → begins (text "#") (t ++ (line_end e ++ s)) ≡ begins (text "#") t
hash_line [] Lf s = refl
hash_line [] Crlf s = refl
hash_line (b ∷ t) e s = refl

-- If the bytes do not begin with `#`, there are no comments.
pub no_comments : (n : ℕ) (s : Bytes) → begins (text "#") s ≡ false → comments n (lines s) ≡ accepted n
unfolding comments join_lines
no_comments n s h = on_lines (lines s) (rw join_lines_lem h)
  where
    on_lines : (l : Lines) → begins (text "#") (join_lines l) ≡ false → comments n l ≡ accepted n
    on_lines (unended t) q = rw (q, comments)
    on_lines (line t e l) q = rw (sym (hash_line t e (join_lines l)) ∙ q, comments)

-- Comments are a front part of the bytes of their lines, and no comment comes next.
comments_lines : (n : ℕ) (l : Lines) → AreLines l → Accepts (Front NoComment (Ends comments) n (join_lines l)) (comments n l)
unfolding comments join_lines
comments_lines n (unended t) a = accepts_choice _ (begins (text "#") t) _ _ (λ q. tt) (λ q. front_none NoComment _ _ _ q no_comments)
comments_lines n (line t e l) a =
    accepts_choice _ (begins (text "#") t) _ _
    (λ q. accepts_choice _ (same t index_line) _ _ (λ r. tt)
    λ r. accepts_line NoComment (Ends comments) comments n t e l (λ k z j h. rw (lines_line t e z a.0, q, comments, r) h)
    (comments_lines (after_line n t e) l a.1))
    (λ q. front_none NoComment _ _ _ (hash_line t e (join_lines l) ∙ q) no_comments)

module _ (n : ℕ) (s : Bytes) (m : ℕ) where
  -- A front part of the bytes of the lines of `s` is a front part of `s`.
  of_lines : (Next : Bytes → Type 0) (reader : ℕ → Lines → Outcome ℕ)
      → Accepts (Front Next (Ends reader) n (join_lines (lines s))) (reader n (lines s))
      → reader n (lines s) ≡ accepted m → Front Next (Ends reader) n s m
  of_lines Next reader h = accepted_holds (Front Next (Ends reader) n s) (reader n (lines s)) m (rw join_lines_lem at h)

  -- Comments are a front part of `s`, and no comment comes next.
  pub comments_front : comments n (lines s) ≡ accepted m → Front NoComment (Ends comments) n s m
  comments_front = of_lines NoComment comments (comments_lines n (lines s) (are_lines s))

  -- A tree is a front part of `s`.
  pub tree_front : tree_end n (lines s) ≡ accepted (Some m) → Front Any TreeEnds n s m
  tree_front = accepted_holds (TreeFront n s) (tree_end n (lines s)) (Some m) (rw join_lines_lem at (tree_lines n (lines s) (are_lines s)))

  -- Comments end no earlier than they begin, and within the bytes.
  pub comments_bounds : comments n (lines s) ≡ accepted m → Between n (n + length s) m
  comments_bounds h = front_bounds (comments_front h)

  -- A tree ends no earlier than it begins, and within the bytes.
  pub tree_bounds : tree_end n (lines s) ≡ accepted (Some m) → Between n (n + length s) m
  tree_bounds h = front_bounds (tree_front h)

-- An accepted header ends where its line ends.
header_end : (v : Option Version) (e : LineEnd) (n : ℕ) → Accepts (λ h. h.end.0 ≡ n) (header_of v e n)
unfolding header_of
header_end None e n = tt
header_end (Some v) e n = search accepts_need

-- The reading of the line of the header `h`, from the version on.
abbrev IsVersion : Header → Reading
IsVersion h n s m = version_line (lines s) ≡ accepted h

-- The header's line, from the version on, is a front part of the bytes of the lines.
version_lines : (h : Header) (l : Lines) → AreLines l → version_line l ≡ accepted h → Front Any (IsVersion h) 6 (join_lines l) h.end.0
unfolding version_line join_lines
version_lines h (unended t) a q = let z : ◌≡◌ {A = ℕ} 0 1 = cc in absurd (omega arith)
version_lines h (line t e l) a q =
    subst (Front Any (IsVersion h) 6 _) (sym (accepted_holds _ _ h (header_end (version t) e (after_line 6 t e)) q))
    (front_line Any (IsVersion h) Stops 6 t e (join_lines l) (after_line 6 t e) (λ k z j r. rw (lines_line t e z a.0) q) (stopped 6 t e l))

-- The reading of the header `h`.
abbrev pub IsHeader : Header → Reading
IsHeader h n s m = header s ≡ accepted h

-- The header is a front part of the file.
pub header_front : (s : Bytes) (h : Header) → header s ≡ accepted h → Front Any (IsHeader h) 0 s h.end.0
unfolding header
header_front s h = accepted_holds (λ g. Front Any (IsHeader g) 0 s g.end.0) (header s) h (search (accepts_need, accepts_each, after_token))
  where
    after_token : (g : Header) → begins token s ≡ true → version_line (lines (drop 6 s)) ≡ accepted g → Front Any (IsHeader g) 0 s g.end.0
    after_token g r q =
        rw (begins_true token s r)
        (front_after Any (IsHeader g) 0 (IsVersion g) token (drop 6 s) _ (λ k z j h. h)
        (rw join_lines_lem at (version_lines g (lines (drop 6 s)) (are_lines _) q)))

-- The header ends within the file.
pub header_bounds : (s : Bytes) (h : Header) → header s ≡ accepted h → h.end.0 ≤ length s
header_bounds s h q = omega (arith, front_bounds (header_front s h q))

-- Free space is no longer than the bytes it is in.
pub free_space_bounds : (s : Bytes) → free_space s ≤ length s
unfolding free_space
free_space_bounds [] = omega arith
free_space_bounds (b ∷ s) = choice (λ n. n ≤ suc (length s)) (begins mark (b ∷ s)) _ _ (omega arith) (omega (arith, free_space_bounds s))

-- The first block, or the tail, begins no earlier than where the comments end, and within the file.
pub first_block_bounds : (n : ℕ) (s : Bytes) (t : Option Tree) → n ≤ length s → tree n s ≡ accepted t → Between n (length s) (first_block n t)
unfolding tree with_room first_block
first_block_bounds n s t inside =
    accepted_holds (λ u. Between n (length s) (first_block n u)) (tree n s) t (accepts_bind _ (tree_end n (lines (drop n s))) _ with_room_lem)
  where
    with_room_lem : (m : Option ℕ) → tree_end n (lines (drop n s)) ≡ accepted m → Between n (length s) (first_block n (with_room n s m))
    with_room_lem None h = omega arith
    with_room_lem (Some m) h =
        omega (arith, simp length-drop at (tree_bounds n (drop n s) m h), simp length-drop at (free_space_bounds (drop m s)))
