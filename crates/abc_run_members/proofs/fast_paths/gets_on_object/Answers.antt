use Rattle.std.proofs.Common.{◌+◌, refl, subst}
use Rattle.std.specs.declared.option.Option.{Option}
use Rattle.abc_frames.specs.Ready.{HasFrameRoom}
use Rattle.abc_run_names.specs.Named.{name_parts_count}
use Rattle.abc_frames.specs.Frame.{newest}
use Rattle.abc_run_state.specs.Outer.{setting_in, world}
use Rattle.abc_meaning.specs.Setting.{NameForm}
use Rattle.abc_run_state.specs.declared.state.How.TheVariants.{Push}
use Rattle.abc_run_members.specs.Members.{gets_named}
use Rattle.abc_run_members.proofs.AtOnce.{property_read, whole_got}
use Rattle.abc_run_members.proofs.Settled.{value_goes}
use Rattle.abc_run_members.proofs.fast_paths.gets_on_object.Goals as goal

pub settle-requires : goal.settle-requires
settle-requires g c = subst (λ (r : Option NameForm). HasFrameRoom (name_parts_count r + 1) 1 c.args.s.now.frames) c.requires.1.1.0 c.requires.1.0

pub returns-in-Property : goal.returns-in-Property
returns-in-Property g c =
    let p = setting_in c.args.linked.now g.out in
    let q = c.args.s.now.frames in
    let w = world c.args.s.now g.out in (
      value_goes p q c.settle.new.frames (Push 1) c.in-Property.value (gets_named p c.args.name (newest q) w) w
          (whole_got p c.args.name c.args.wanted.now c.args.o c.in-Property.value (newest q) w c.requires.1.1.0 c.requires.1.1.1.1.0 (property_read p c.args.o c.args.wanted.now c.find_first_on-found.result _ c.in-Property.value w c.find_first_on-found.ensures.first c.in-Property.is))
          c.settle.ensures,
      refl,
    )
