-- A handle: `unfolding meaning` opens every definition of the format, so that it computes on given bytes.
use mathlib.Core.List
use Rattle.format.specs.Numeral
use Rattle.format.specs.Line
use Rattle.format.specs.Header
use Rattle.format.specs.Comments
use Rattle.format.specs.Tree
use Rattle.format.specs.Block
use Rattle.format.specs.Chain
use Rattle.format.specs.Index
use Rattle.format.specs.File
use Rattle.format.specs.IndexWriter
use Rattle.format.specs.Nest
use Rattle.format.specs.Outline
use Rattle.format.specs.Fields
use Rattle.format.specs.Edit
use Rattle.format.specs.Listing

unfoldable pub meaning : Unit {0}
unfolding Numeral.numerals Numeral.numeral Numeral.both Numeral.split Numeral.lead_first Numeral.digits_of Line.lines Line.lead Header.header Header.version_line Header.header_of Header.version Header.version_of Comments.comments Tree.tree Tree.tree_end Tree.directives Tree.content Tree.with_room Tree.free_space Block.block Block.block_with Chain.chain Chain.linked_at Chain.tail Chain.next_block Chain.mark_ahead Index.verdict Index.judged Index.indexed Index.styled Index.at_least_one Index.dash_numbers Index.dashed Index.with_zeros Index.after_word Index.listed Index.in_brackets Index.trim_start Index.without Index.entry Index.entries Index.rendering Index.styled_text Index.spaced Index.index_text File.layout_of File.file File.body File.first_block File.goes_on File.layout IndexWriter.may_have_index IndexWriter.index_for Nest.opened Nest.inside Nest.walked Nest.walk Nest.records_from Nest.records Nest.walk_file Outline.row_of Outline.fields_of Outline.sum Outline.packed Outline.encode_row Outline.outline_of Outline.rows Outline.outline Fields.number_bytes Fields.layout_fields Fields.layout_bytes Fields.record_fields Fields.encode_record Fields.record_table Edit.ends_at Edit.is_one_tree Edit.filled Edit.edit_tree Edit.edit Listing.sentence Listing.tree_text Listing.row_text Listing.verdict_word Listing.file_listing Listing.printed Listing.listing List.flat_map
meaning = tt
