-- One byte more than the program takes is enough to know the listing of the whole input.
use Rattle.std.proofs.Common.{◌≡◌, ℕ, ◌<◌, ◌≤◌, inl, inr, List, ◌++◌, length, Result, Ok, Err, OnOk, None, Some, IfSome, refl, sym, ap, ◌∙◌, subst, arith, append-nil}
use Rattle.std.proofs.lemmas.Bool.{lt-leb}
use Rattle.std.proofs.lemmas.Bool.Decides.{leb_tells}
use Rattle.std.proofs.lemmas.List.{length-append}
use Rattle.std.specs.declared.option.Option.{Option}
use Rattle.std.specs.Io.KnownBytes.{Appends, Consumes, IsAtEnd}
use Rattle.format.specs.Listing.{listing, most_input}

-- Whatever follows more bytes than that, the listing says that the input is too long.
listing_of_more : (s t : List ℕ) → most_input < length s → listing (s ++ t) ≡ listing s
unfolding listing
listing_of_more s t h =
    let longer : most_input < length (s ++ t) = rw (length-append s t) (omega arith) in
    rw (lt-leb (length s) most_input h, lt-leb (length (s ++ t)) most_input longer, listing) refl

-- The same where a reader had `a`, `bs` was read from it, and `b` is what it has left.
listing_of_read : (a b x y : Option (List ℕ)) (bs : List ℕ) → Consumes a b bs → (length bs ≤ most_input → IsAtEnd b) → Appends x y (listing bs)
    → IfSome a (λ s. Appends x y (listing s))
listing_of_read None b x y bs read end put = tt
listing_of_read (Some s) None x y bs read end put = absurd read
listing_of_read (Some s) (Some t) x y bs read end put =
    let same : listing s ≡ listing bs = elim (leb_tells (length bs) most_input) [
      | inl short ↦ ap listing (read ∙ ap (λ l. bs ++ l) (end short.1) ∙ append-nil bs)
      | inr long ↦ ap listing read ∙ listing_of_more bs t long.1
    ] in
    subst (Appends x y) (sym same) put

-- The same where the listing is written.
pub listing_of_input : {A E : Type 0} (r : Result A E) (a b x y : Option (List ℕ)) (bs : List ℕ) → Consumes a b bs → (length bs ≤ most_input → IsAtEnd b)
    → OnOk r (Appends x y (listing bs)) → OnOk r (IfSome a (λ s. Appends x y (listing s)))
listing_of_input (Ok u) a b x y bs read end put = listing_of_read a b x y bs read end put
listing_of_input (Err e) a b x y bs read end put = tt
