use Rattle.std.proofs.Common.{rules}
use Rattle.file.proofs.LayoutLaws.{open_is_kept}
use Rattle.nest.proofs.WalkLaws.{walking_inside, walking_sound, walking_room, walking_ordinal, walking_next, walking_done, less_inside, less_opened, content_order, content_inside, content_alone, found_opens, content_room, content_walked}
use Rattle.nest.proofs.walk.+walk_blocks_walk_content.Goals as goal

pub walk_blocks-slice_bounds-block-count : goal.walk_blocks-slice_bounds-block-count
walk_blocks-slice_bounds-block-count t c = search (walking_inside c.loop-k.invariant (open_is_kept _ _ c.args.file.kept), rules)

pub walk_blocks-slice_bounds-block-start : goal.walk_blocks-slice_bounds-block-start
walk_blocks-slice_bounds-block-start t c = search (walking_inside c.loop-k.invariant (open_is_kept _ _ c.args.file.kept), rules)

pub walk_blocks-overflow_cast-block : goal.walk_blocks-overflow_cast-block
walk_blocks-overflow_cast-block t c = search (walking_ordinal c.loop-k.invariant (open_is_kept _ _ c.args.file.kept), rules)

pub walk_blocks-walk_content-n-requires : goal.walk_blocks-walk_content-n-requires
walk_blocks-walk_content-n-requires t c =
    let kept = open_is_kept _ _ c.args.file.kept in (
      search (less_inside, rules, c.decreases),
      (
        walking_sound c.loop-k.invariant kept (search rules),
        (
          c.requires.depth,
          walking_room c.loop-k.invariant kept (search rules) c.requires.inside _ c.outermost.ensures,
        ),
      ),
    )

pub walk_blocks-loop-k-preserved : goal.walk_blocks-loop-k-preserved
walk_blocks-loop-k-preserved t c = search (walking_next c.loop-k.invariant (open_is_kept _ _ c.args.file.kept), rules)

pub walk_blocks-returns : goal.walk_blocks-returns
walk_blocks-returns t c = search (walking_done c.loop-k.invariant (open_is_kept _ _ c.args.file.kept), rules)

pub walk_content-slice_bounds-part-count : goal.walk_content-slice_bounds-part-count
walk_content-slice_bounds-part-count t c = search (content_order, rules)

pub walk_content-slice_bounds-part-start : goal.walk_content-slice_bounds-part-start
walk_content-slice_bounds-part-start t c = search (content_order, rules)

pub walk_content-slice_bounds-part-end : goal.walk_content-slice_bounds-part-end
walk_content-slice_bounds-part-end t c = search (content_inside, rules)

pub walk_content-returns-then-found-eq0 : goal.walk_content-returns-then-found-eq0
walk_content-returns-then-found-eq0 t c = search (content_alone, rules)

pub walk_content-walk_blocks-requires : goal.walk_content-walk_blocks-requires
walk_content-walk_blocks-requires t c =
    let opens = found_opens c.requires.sound c.content_of-c.ensures c.content_of-found.ensures c.if-found-eq0.false in (
      less_opened c.decreases opens c.opened.ensures.blocks,
      (
        opens.higher,
        rw c.opened.ensures.bytes (content_room c.requires.sound c.content_of-c.ensures c.content_of-found.ensures 0 0 _ c.if-found-eq0.false c.requires.inside _ c.outermost-content.ensures),
      ),
    )

pub walk_content-returns : goal.walk_content-returns
walk_content-returns t c =
    content_walked c.requires.sound c.content_of-c.ensures c.content_of-found.ensures _ _ _ c.if-found-eq0.false c.requires.inside _ c.outermost-content.ensures c.take_block-n.ensures
    (rw c.opened.ensures.bytes at c.walk_blocks.ensures)
