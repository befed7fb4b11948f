-- Counts are at most as large as the number of bytes that were lent.
use Rattle.std.proofs.Common.{arith, length}
use Rattle.format.specs.Bytes.{Bytes}
use Rattle.format.specs.Nest.{deepest, records_from, records, record_count}
use Rattle.format.specs.Outline.{stored, stored_count}
use Rattle.format.proofs.OutcomeLaws.{accepted_holds, accepts_bind}
use Rattle.format.proofs.WordLaws.{Counts}
use Rattle.format.proofs.FewLaws.{Few, records_few}
use Rattle.outline.proofs.StoredLaws.{Read, read_stored}

-- A file has no more records than bytes, since each record takes at least 54 bytes of the file.
pub count_few : (s : Bytes) → Counts (length s) (record_count s)
unfolding record_count records
count_few s =
    accepts_bind _ (records_from deepest 0 0 s) _
    λ rs e. omega (arith, accepted_holds (Few s) (records_from deepest 0 0 s) rs (records_few deepest 0 0 s) e)

-- A stored outline has no more rows than bytes, since each row takes sixteen bytes.
pub stored_count_few : (b : Bytes) → Counts (length b) (stored_count b)
unfolding stored_count
stored_count_few b = accepts_bind _ (stored b) _ λ rs e. omega (arith, (accepted_holds (Read b) (stored b) rs (read_stored b) e).size)
