-- `book_writer::lines::put_route_lines` meets its contract: the columns are those of the routes that the words show. Assumes nothing.
use mathlib.Core.Path.{sym, ap, subst}
use Rattle.reading.specs.Written.{lines_text}
use Rattle.printing.proofs.Puts.{put_as}
use Rattle.line_writer.specs.Fitting.{LinesFit}
use Rattle.book_writer.proofs.Pairs.{lines_of_routes}
use Rattle.book_writer.proofs.lines.put_route_lines.Goals as goal

pub put_lines-requires : goal.put_lines-requires
put_lines-requires c = subst (LinesFit _ _) (sym (lines_of_routes _ c.routes.ensures.froms c.routes.ensures.tos)) c.requires

pub returns : goal.returns
returns c = put_as (ap lines_text (lines_of_routes _ c.routes.ensures.froms c.routes.ensures.tos)) c.put_lines.ensures
