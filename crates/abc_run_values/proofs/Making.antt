-- From an instruction that isn't stuck to what its code relies on.
use Rattle.std.proofs.Common.{◌≡◌, ℕ, ◌+◌, ◌<◌, ◌^◌, length, ap, ◌∙◌, arith}
use Rattle.std.specs.declared.option.Option.{Option}
use Rattle.abc_meaning.specs.At.{Doing}
use Rattle.abc_frames.specs.Ready.{HasFrameRoom}
use Rattle.abc_verify_typing.specs.Rows.{Shape}
use Rattle.abc_frames.specs.Frame.{Frames, newest, newest_size}
use Rattle.abc_frames.specs.declared.records.Size.{Size}
use Rattle.abc_run_state.specs.Turns.{size_of_routine, size_for}
use Rattle.abc_run_values.proofs.Opened.{IsOpened, here_of}
use Rattle.abc_run_values.proofs.Shaped.{tested_is}
use Rattle.abc_file_types.specs.declared.code.Instr.{Instr}
use Rattle.abc_verify_typing.specs.Effects.{depth}
use Rattle.abc_verify_typing.specs.Routines.{Routine}
use Rattle.abc_meaning.specs.Setting.{Setting}
use Rattle.abc_meaning.specs.World.{World}

pub ready_for : (p : Setting) (q : Frames) (i : Instr) (w : World) (row : Shape) (act : Doing) (n g : ℕ) (o : IsOpened p (newest q) i w row act) → 0 < length q.living → (newest q).place + 1 < 2 ^ 32 → newest_size q ≡ size_for p (newest q) → depth (here_of p o.routine (newest q) i row) ≡ n → length row.gives ≡ g → HasFrameRoom n g q
ready_for p q i w row act n g o live place size d e =
    let t = tested_is p (here_of p o.routine (newest q) i row) (newest q) w o.tests in
    let most : (newest_size q).stack ≡ o.routine.max_stack = ap (λ (s : Size). s.stack) size ∙ ap (λ (r : Option Routine). (size_of_routine r).stack) o.body in
    let there = t.there in
    let room = t.room in
    record { live = live; operands = omega (arith, there, d); room = omega (arith, there, room, d, e, most); place = place }
