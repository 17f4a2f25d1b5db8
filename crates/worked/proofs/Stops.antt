-- The table of specs/Stops, computed.
use Rattle.std.specs.Prelude.{ℕ, ◌≡◌, refl, List, map}
use Rattle.std.proofs.Math.Path.{subst⁻¹, fun_ext}
use Rattle.lines.specs.Line.{Line}
use Rattle.lines.specs.Run.{lines_of}
use Rattle.schedule.specs.Input.{input_of}
use Rattle.worked.specs.Printing.{quick_lines, lines_quick, printing}
use Rattle.worked.specs.Stops.{table}

quickly : map (λ row. quick_lines (input_of row.input)) table ≡ map (λ row. row.lines) table
unfolding printing table
quickly = refl

pub stops : map (λ row. lines_of row.input) table ≡ map (λ row. row.lines) table
stops = subst⁻¹ (λ (lines : List ℕ → List Line). map (λ row. lines row.input) table ≡ map (λ row. row.lines) table) (fun_ext lines_quick) quickly
