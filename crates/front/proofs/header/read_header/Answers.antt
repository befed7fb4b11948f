-- Each test refuses what the definition refuses, in the same order.
use Rattle.std.proofs.Common.{rules}
use Rattle.front.proofs.HeaderLaws.{header_token, header_unended, header_malformed, header_other, header_read}
use Rattle.front.proofs.header.read_header.Goals as goal

pub returns-then-not-begins_at : goal.returns-then-not-begins_at
returns-then-not-begins_at c = search (header_token, rules)

pub returns-in_err-line : goal.returns-in_err-line
returns-in_err-line c =
    let none = c.in_err-line.ensures.ok_part in
    let is = rw none at c.in_err-line.ensures.value in
    search (header_unended, none, is, rules)

pub returns-in_err-version : goal.returns-in_err-version
returns-in_err-version c =
    let none = c.in_err-version.ensures.ok_part in
    let is = rw none at c.in_err-version.ensures.value in
    search (header_malformed, none, is, c.in_ok-line.ensures.ok_part, rules)

pub returns-then-version-ne1 : goal.returns-then-version-ne1
returns-then-version-ne1 c = search (header_other, c.in_ok-line.ensures.ok_part, c.in_ok-version.ensures.ok_part, rules)

pub returns : goal.returns
returns c = search (header_read, c.in_ok-line.ensures.ok_part, c.in_ok-version.ensures.ok_part, rules)
