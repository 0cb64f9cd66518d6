-- What the code holds of a method, as a routine.
use Rattle.std.specs.Prelude.{ℕ}
use Rattle.abc_link_names.specs.Linked.{LinkedFile, layout_of}
use Rattle.abc_link_names.specs.declared.part.Part.TheVariants as parts
use Rattle.abc_file_types.specs.declared.code.Handler.{Handler}
use Rattle.abc_verify_typing.specs.Routines.{Routine, or_any, type_at}
use Rattle.abc_verify_typing.specs.declared.catch.Catch.{Catch}
use Rattle.abc_verify_states.specs.declared.frame.Frame.{Frame}

-- what the code holds of a method, as a routine
abbrev pub routine_of_frame : Frame → Routine
routine_of_frame f = record {
  filled = f.filled;
  home = f.home;
  needs_activation = f.needs_activation;
  unsupported = f.unsupported;
  activation = f.activation;
  max_stack = f.max_stack;
  local_count = f.local_count;
  scope_size = f.scope_size;
  code = f.code.now;
  handlers = f.handlers;
}

-- a handler of a body
abbrev pub catch_in : LinkedFile → ℕ → ℕ → Handler → Catch
catch_in l b e h = record { from = h.from; to = h.to; target = h.target; kind = or_any (type_at l h.exc_type); layout = layout_of l (parts.Catch b e) }
