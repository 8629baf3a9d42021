-- What has been read is within the rows, and each turn reads more.
use Rattle.std.proofs.Common.{◌-◌, ◌≤◌, length}
use Rattle.seats.proofs.read_rows.Given as goal

abbrev pub invariant-loop-done : goal.invariant-loop-done
invariant-loop-done g l = l.done ≤ length l.rows

abbrev pub decreases-loop-done : goal.decreases-loop-done
decreases-loop-done g l = length l.initial.rows - l.done
