-- What a sound state gives to the code that does its next step.
use Rattle.std.specs.Prelude.{◌≡◌, ◌≢◌, ◌+◌, ◌<◌, ◌^◌, length, slice_get, Some}
use Rattle.abc_objects.specs.Stands.{AreEntries, EachAt, IsScope}
use Rattle.abc_objects.specs.Values.{Exists}
use Rattle.abc_verify_typing.specs.Instructions.{opcode}
use Rattle.abc_frames.specs.Frame.{Frame}
use Rattle.abc_file_types.specs.Ready.{CanSpell}
use Rattle.abc_file_types.specs.declared.code.Instr.{Instr}
use Rattle.abc_verify_typing.specs.Routines.{Routine}
use Rattle.abc_meaning.specs.Setting.{Setting, routine_of}
use Rattle.abc_meaning.specs.World.{Sticks, Stopped, World}
use Rattle.abc_meaning.specs.Step.{runs}

-- what the newest frame names is there
pub record IsFrameThere (p : Setting) (w : World) (f : Frame) : Type 0 where
  pub stack : EachAt (Exists p.linked w.heap) f.stack
  pub locals : EachAt (Exists p.linked w.heap) f.locals
  pub scopes : AreEntries w.heap f.scopes
  pub saved : IsScope w.heap f.saved
  pub home : f.home < length p.linked.file.scripts

-- there is an instruction at its place, which some bytes spell, and whose opcode is a byte
pub record HasInstruction (p : Setting) (f : Frame) : Type 0 where
  pub routine : Routine
  pub body : routine_of p f.method ≡ Some routine
  pub instr : Instr
  pub at : slice_get routine.code f.place ≡ Some instr
  pub can : CanSpell (length routine.code) instr
  pub byte : opcode instr < 2 ^ 8
  pub next : f.place + 1 < 2 ^ 32

-- and no test of what it does fails
pub record IsRunning (p : Setting) (w : World) (f : Frame) : Type 0 where
  pub there : IsFrameThere p w f
  pub instruction : HasInstruction p f
  pub free : (n : World) → runs p f (routine_of p f.method) w ≢ Stopped n Sticks
