-- A refused file gives one line. An accepted file has an outline, from which both results are written.
use Rattle.std.proofs.Common.{rules, sym}
use Rattle.std.proofs.lemmas.Result.{err_from_is_err_and}
use Rattle.listing.proofs.ListLaws.{listed_refused, outline_refused, outline_length, outline_small, outline_listed}
use Rattle.listing.proofs.list_outlined.Goals as goal

pub slice_bounds-write_both-end : goal.slice_bounds-write_both-end
slice_bounds-write_both-end c = sym (outline_length _ c.requires.short _ _ _ c.requires.outlined _ c.in-Ok.is c.type_inv.s _ c.in_ok-n-in-Ok.was)

pub write_both-requires : goal.write_both-requires
write_both-requires c = outline_small _ c.requires.short _ _ _ c.requires.outlined _ c.in-Ok.is c.type_inv.s _ c.in_ok-n-in-Ok.was

pub returns-in-Err : goal.returns-in-Err
returns-in-Err c = search (listed_refused, rules)

pub returns-in_err-n-in-Ok : goal.returns-in_err-n-in-Ok
returns-in_err-n-in-Ok c =
    let p = err_from_is_err_and c.from_residual.result c.from_residual.ensures.1 in
    rw (p.1, p.2) (outline_refused _ c.requires.short _ _ _ c.requires.outlined _ c.in-Ok.is c.type_inv.s _ c.in_err-n-in-Ok.was _ _)

pub returns-in_ok-n-in-Ok : goal.returns-in_ok-n-in-Ok
returns-in_ok-n-in-Ok c = outline_listed _ c.requires.short _ _ _ c.requires.outlined _ c.in-Ok.is c.type_inv.s _ c.in_ok-n-in-Ok.was _ _ _ _ _ c.write_both.ensures
