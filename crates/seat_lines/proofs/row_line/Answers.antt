-- `seat_lines::row_line` meets its contract: the line from its parts. Assumes nothing.
use Rattle.seat_lines.proofs.Line.{line_parts}
use Rattle.seat_lines.proofs.row_line.Goals as goal

pub returns : goal.returns
returns c =
    let x = c.args in
    line_parts x.number x.before x.after c.place.ensures c.place-2.ensures c.place-3.ensures c.place-4.ensures c.draw-b.ensures c.draw-a.ensures
