use Rattle.std.proofs.Common.{◌≡◌, ℕ, ◌+◌, ◌≤◌, ◌<◌, ◌^◌, List}
use Rattle.std.specs.Prelude.{All}
use Rattle.abc_file_types.specs.Ends.{blame_first}
use Rattle.abc_varint.proofs.Fill.{Filling}
use Rattle.abc_instr.specs.declared.raw.RawInstr.{RawInstr as Raw}
use Rattle.abc_file_types.specs.Instructions.{instruction}
use Rattle.abc_file_types.specs.Starts.{size}
use Rattle.abc_instr.specs.Offsets.{raws_len, AreRaw}
use Rattle.abc_instr.specs.Reading.{IsReading}
use Rattle.abc_instr.specs.Scanning.{instrs_in, raws_in}
use Rattle.abc_instr.proofs.reading.read_until.Given as goal

abbrev pub invariant-loop : goal.invariant-loop
invariant-loop g l = (xs : List (Raw × ℕ)) × record {
  reading : IsReading xs l.reading;
  filling : Filling (blame_first instruction) l.byte_count l.counter (raws_in xs) l.initial.w (g.S.Source.left l.initial.source) l.w (g.S.Source.left l.source);
  some : All (λ x. 0 < x.1) xs;
  raw : AreRaw (instrs_in xs);
  size : l.initial.w.place + size xs ≡ l.w.place;
  few : l.initial.w.place + raws_len (instrs_in xs) ≤ l.w.place;
  room : l.w.place ≤ 2 ^ 24;
  within : l.w.place ≤ l.initial.w.place + l.byte_count;
  later : g.S.Source.faults l.initial.source ≤ g.S.Source.faults l.source;
}
