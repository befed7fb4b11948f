-- `file::layout::judge` meets its contract: the first step that refuses decides, and if none does, the layout is that of
-- the file.
use Rattle.std.proofs.Common.{rules, sym, ap, ◌∙◌}
use Rattle.std.proofs.lemmas.Result.{err_from_is_err_and}
use Rattle.format.specs.Outcome.{refused}
use Rattle.file.proofs.LayoutLaws.{file_long, header_refused, comments_refused, tree_refused, front_read, blocks_none, chain_refused, chain_inside, chain_judged}
use Rattle.file.proofs.layout.judge.Goals as goal

pub returns-then-s-gt-MOST_BYTES : goal.returns-then-s-gt-MOST_BYTES
returns-then-s-gt-MOST_BYTES c = search (file_long, rules)

pub returns-in_err-header : goal.returns-in_err-header
returns-in_err-header c =
    let p = err_from_is_err_and c.from_residual.result c.from_residual.ensures.1 in
    header_refused _ (search rules) _ _ _ c.read_header.ensures _ c.in_err-header.was _ (p.1 ∙ ap refused p.2)

pub returns-in_err-comments_end : goal.returns-in_err-comments_end
returns-in_err-comments_end c =
    let p = err_from_is_err_and c.from_residual-in_err-comments_end.result c.from_residual-in_err-comments_end.ensures.1 in
    comments_refused _ (search rules) _ _ _ (sym c.read_header.ensures ∙ c.in_ok-header.was) _ c.comments_end.ensures _ c.in_err-comments_end.was _ (p.1 ∙ ap refused p.2)

pub returns-in_err-tree : goal.returns-in_err-tree
returns-in_err-tree c =
    let p = err_from_is_err_and c.from_residual-in_err-tree.result c.from_residual-in_err-tree.ensures.1 in
    tree_refused _ (search rules) _ _ _ (sym c.read_header.ensures ∙ c.in_ok-header.was) _ (sym c.comments_end.ensures ∙ c.in_ok-comments_end.was) _ c.read_tree.ensures _ c.in_err-tree.was _ (p.1 ∙ ap refused p.2)

pub returns-then-not-goes_on : goal.returns-then-not-goes_on
returns-then-not-goes_on c =
    let front = front_read _ (search rules) _ (sym c.read_header.ensures ∙ c.in_ok-header.was) _ (sym c.comments_end.ensures ∙ c.in_ok-comments_end.was) _ (sym c.read_tree.ensures ∙ c.in_ok-tree.was) in
    search (blocks_none _ _ _ _ front, rules)

pub returns-in_err-chain : goal.returns-in_err-chain
returns-in_err-chain c =
    let front = front_read _ (search rules) _ (sym c.read_header.ensures ∙ c.in_ok-header.was) _ (sym c.comments_end.ensures ∙ c.in_ok-comments_end.was) _ (sym c.read_tree.ensures ∙ c.in_ok-tree.was) in
    let p = err_from_is_err_and c.from_residual-in_err-chain.result c.from_residual-in_err-chain.ensures.1 in
    chain_refused _ _ _ _ front _ c.goes_on.ensures (search rules) _ c.first_block-first.ensures _ _ _ c.walk.ensures _ c.in_err-chain.was _ (p.1 ∙ ap refused p.2)

pub chain_verdict-verdict-requires : goal.chain_verdict-verdict-requires
chain_verdict-verdict-requires c =
    let front = front_read _ (search rules) _ (sym c.read_header.ensures ∙ c.in_ok-header.was) _ (sym c.comments_end.ensures ∙ c.in_ok-comments_end.was) _ (sym c.read_tree.ensures ∙ c.in_ok-tree.was) in
    chain_inside _ _ _ _ front _ c.goes_on.ensures (search rules) _ c.first_block-first.ensures _ _ _ c.walk.ensures _ c.in_ok-chain.was

pub returns : goal.returns
returns c =
    let front = front_read _ (search rules) _ (sym c.read_header.ensures ∙ c.in_ok-header.was) _ (sym c.comments_end.ensures ∙ c.in_ok-comments_end.was) _ (sym c.read_tree.ensures ∙ c.in_ok-tree.was) in
    chain_judged _ _ _ _ front _ c.goes_on.ensures (search rules) _ c.first_block-first.ensures _ _ _ c.walk.ensures _ c.in_ok-chain.was _ c.chain_verdict-verdict.ensures _ c.layout_with.ensures
