-- What instructions that work on the base of a method's class do, by their opcodes.
use Rattle.std.proofs.Common.{◌≡◌, ◌∙◌, ℕ, ◌+◌, [], ◌∷◌, true, refl, sym, ap, subst, zero-add, arith}
use Rattle.std.specs.Prelude.{Some, is_some}
use Rattle.abc_run_members.specs.Members.{holder_under, parts_at}
use Rattle.abc_run_names.specs.Named.{name_form_at, parts_for}
use Rattle.abc_run_values.proofs.Doing.{Does}
use Rattle.abc_run_values.proofs.Opened.{here_of, opened}
use Rattle.abc_run_values.proofs.Shaped.{tested_is}
use Rattle.abc_run_values.specs.Ready.{CanRun}
use Rattle.abc_link_names.specs.Linked.{LinkedFile}
use Rattle.abc_link_names.specs.Owners.{owner_of}
use Rattle.abc_link_names.specs.declared.part.LayoutId.{LayoutId}
use Rattle.abc_link_names.specs.declared.types.Owner.TheVariants.{Iinit}
use Rattle.abc_verify_typing.specs.Instructions.{opcode}
use Rattle.abc_verify_typing.specs.Rows.{Shape, row_at, table_of_rows}
use Rattle.abc_verify_typing.specs.declared.row.Need.TheVariants as needed
use Rattle.abc_verify_typing.specs.declared.row.Site.{Site}
use Rattle.abc_verify_typing.specs.declared.row.Site.TheVariants.{InMaker, OnInstance}
use Rattle.abc_frames.specs.Frame.{newest}
use Rattle.abc_meaning.specs.At.{Doing, drops_came, gives_came}
use Rattle.abc_meaning.specs.Supers as acting
use Rattle.abc_meaning.specs.Table.{act_of, acts}
use Rattle.abc_run_state.specs.Operands.{operand_at}
use Rattle.abc_run_state.specs.Outer.{Outer, setting_in, world}
use Rattle.abc_run_state.specs.Standing.{IsSet}
use Rattle.abc_run_state.specs.declared.state.How.TheVariants.{Drop, Push}
use Rattle.abc_run_state.specs.declared.state.State.{State}
use Rattle.abc_meaning.specs.Setting.{routine_of}
use Rattle.abc_run_members.specs.Supers.{super_call, super_construct, gets_super, sets_super}
use Rattle.abc_file_types.specs.declared.code.Instr.{Instr}
use Rattle.abc_file_types.specs.declared.code.Instr.TheVariants.{One, Two}
use Rattle.abc_run_dispatch.proofs.DeletedTaken.{Taking, taken}
use Rattle.abc_run_dispatch.proofs.Takes.{all_arguments, named_taken, no_arguments, one_taken, valued_taken}
use Rattle.abc_verify_typing.specs.Routines.{Routine, home_of}
use Rattle.abc_verify_typing.specs.Rules.{is_here, super_layout}
use Rattle.abc_verify_typing.specs.declared.home.Home.{Home}
use Rattle.abc_run_dispatch.specs.Homes.{HasHome}
use Rattle.abc_run_dispatch.proofs.Homes.{maker_home, routine_home}
use Rattle.abc_run_dispatch.proofs.Receiving.{calls_dropping, calls_pushing, constructs_is, gets_is, sets_is}

-- ---- an opcode that is known

-- ---- where a super operation stands

sited : (l : LinkedFile) (out : Outer) (s : State) (i : Instr) (row : Shape) (act : Doing) (site : Site) → CanRun l out s i → row_at (opcode i) ≡ Some row → act_of (opcode i) ≡ Some act → row.site ≡ site → ((m : Routine) → is_here m site ≡ is_some (super_layout site m.home)) → is_some (super_layout site (home_of l (owner_of l.file (newest s.frames).method))) ≡ true
sited l out s i row act site can e a on is =
    let p = setting_in l out in
    let f = newest s.frames in
    let o = opened p f i (world s out) row act e a can.free in
    let t = tested_is p (here_of p o.routine f i row) f (world s out) o.tests in
    ap (λ (home : Home). is_some (super_layout site home)) (sym (routine_home p f.method o.routine o.body)) ∙ sym (is o.routine) ∙ ap (is_here o.routine) (sym on) ∙ t.site

pub home_04 : (l : LinkedFile) (out : Outer) (s : State) (n : ℕ) → CanRun l out s (One 0x04 n) → HasHome l (owner_of l.file (newest s.frames).method)
unfolding row_at table_of_rows act_of acts
home_04 l out s n can = sited l out s (One 0x04 n) _ _ OnInstance can refl refl refl (λ m. refl)

pub home_05 : (l : LinkedFile) (out : Outer) (s : State) (n : ℕ) → CanRun l out s (One 0x05 n) → HasHome l (owner_of l.file (newest s.frames).method)
unfolding row_at table_of_rows act_of acts
home_05 l out s n can = sited l out s (One 0x05 n) _ _ OnInstance can refl refl refl (λ m. refl)

pub home_45 : (l : LinkedFile) (out : Outer) (s : State) (n count : ℕ) → CanRun l out s (Two 0x45 n count) → HasHome l (owner_of l.file (newest s.frames).method)
unfolding row_at table_of_rows act_of acts
home_45 l out s n count can = sited l out s (Two 0x45 n count) _ _ OnInstance can refl refl refl (λ m. refl)

pub home_4E : (l : LinkedFile) (out : Outer) (s : State) (n count : ℕ) → CanRun l out s (Two 0x4E n count) → HasHome l (owner_of l.file (newest s.frames).method)
unfolding row_at table_of_rows act_of acts
home_4E l out s n count can = sited l out s (Two 0x4E n count) _ _ OnInstance can refl refl refl (λ m. refl)

-- in the maker of a class
pub maker_49 : (l : LinkedFile) (out : Outer) (s : State) (n : ℕ) → CanRun l out s (One 0x49 n) → is_some (super_layout InMaker (home_of l (owner_of l.file (newest s.frames).method))) ≡ true
unfolding row_at table_of_rows act_of acts
maker_49 l out s n can = sited l out s (One 0x49 n) _ _ InMaker can refl refl refl (λ m. refl)

pub home_49 : (l : LinkedFile) (out : Outer) (s : State) (n : ℕ) → CanRun l out s (One 0x49 n) → HasHome l (owner_of l.file (newest s.frames).method)
home_49 l out s n can = maker_home l (owner_of l.file (newest s.frames).method) (maker_49 l out s n can)

-- ---- from a layout on

two_more : (j : ℕ) → 1 + j + 1 ≡ j + 2
two_more j = omega arith

begins_at : (l : LinkedFile) (out : Outer) (s : State) (x : LayoutId) (row : Shape) (r : Routine) → IsSet l s → super_layout OnInstance (home_of l (owner_of l.file (newest s.frames).method)) ≡ Some x → routine_of (setting_in l out) (newest s.frames).method ≡ Some r → row.site ≡ OnInstance → super_layout row.site r.home ≡ Some x
begins_at l out s x row r set home body on =
    ap (λ (site : Site). super_layout site r.home) on ∙ ap (super_layout OnInstance) (routine_home (setting_in l out) (newest s.frames).method r body) ∙ home

gets_as : (l : LinkedFile) (out : Outer) (s : State) (n : ℕ) (x : LayoutId) (row : Shape) → row.site ≡ OnInstance → IsSet l s → super_layout OnInstance (home_of l (owner_of l.file (newest s.frames).method)) ≡ Some x
    → let p = setting_in l out in let f = newest s.frames in Taking p s.frames (One 0x04 n) (world s out) row (gives_came acting.reads_super) 0 (parts_at p n + 1) 1 (operand_at (parts_at p n) f ∷ []) (parts_for (name_form_at p n) 0 f) → Does l out s (One 0x04 n) (parts_at p n + 1) 1 (gets_super p n x.0 f)
gets_as l out s n x row on set home a =
    let p = setting_in l out in
    let f = newest s.frames in
    record { ready = a.ready; does = a.does ∙ gets_is p (here_of p a.routine f (One 0x04 n) row) f n x (world s out) (begins_at l out s x row a.routine set home a.body on) (parts_for (name_form_at p n) 0 f) refl }

sets_as : (l : LinkedFile) (out : Outer) (s : State) (n : ℕ) (x : LayoutId) (row : Shape) → row.site ≡ OnInstance → IsSet l s → super_layout OnInstance (home_of l (owner_of l.file (newest s.frames).method)) ≡ Some x
    → let p = setting_in l out in let f = newest s.frames in Taking p s.frames (One 0x05 n) (world s out) row (drops_came acting.writes_super) 0 (parts_at p n + 2) 0 (operand_at 0 f ∷ holder_under p n 1 f ∷ []) (parts_for (name_form_at p n) 1 f) → Does l out s (One 0x05 n) (parts_at p n + 2) 0 (sets_super p n x.0 f)
sets_as l out s n x row on set home a =
    let p = setting_in l out in
    let f = newest s.frames in
    record { ready = a.ready; does = a.does ∙ sets_is p (here_of p a.routine f (One 0x05 n) row) f n x (world s out) (begins_at l out s x row a.routine set home a.body on) (parts_for (name_form_at p n) 1 f) refl }

calls_pushing_as : (l : LinkedFile) (out : Outer) (s : State) (n count : ℕ) (x : LayoutId) (row : Shape) → row.site ≡ OnInstance → IsSet l s → super_layout OnInstance (home_of l (owner_of l.file (newest s.frames).method)) ≡ Some x
    → let p = setting_in l out in let f = newest s.frames in let k = count + parts_at p n + 1 in Taking p s.frames (Two 0x45 n count) (world s out) row (gives_came acting.calls_super) count k 1 (holder_under p n count f ∷ []) (parts_for (name_form_at p n) count f) → Does l out s (Two 0x45 n count) k 1 (super_call p n x.0 count (Push k) f)
calls_pushing_as l out s n count x row on set home a =
    let p = setting_in l out in
    let f = newest s.frames in
    record { ready = a.ready; does = a.does ∙ calls_pushing p (here_of p a.routine f (Two 0x45 n count) row) f n x (world s out) (begins_at l out s x row a.routine set home a.body on) count (count + parts_at p n + 1) (parts_for (name_form_at p n) count f) refl }

calls_dropping_as : (l : LinkedFile) (out : Outer) (s : State) (n count : ℕ) (x : LayoutId) (row : Shape) → row.site ≡ OnInstance → IsSet l s → super_layout OnInstance (home_of l (owner_of l.file (newest s.frames).method)) ≡ Some x
    → let p = setting_in l out in let f = newest s.frames in let k = count + parts_at p n + 1 in Taking p s.frames (Two 0x4E n count) (world s out) row (drops_came acting.calls_super) count k 0 (holder_under p n count f ∷ []) (parts_for (name_form_at p n) count f) → Does l out s (Two 0x4E n count) k 0 (super_call p n x.0 count (Drop k) f)
calls_dropping_as l out s n count x row on set home a =
    let p = setting_in l out in
    let f = newest s.frames in
    record { ready = a.ready; does = a.does ∙ calls_dropping p (here_of p a.routine f (Two 0x4E n count) row) f n x (world s out) (begins_at l out s x row a.routine set home a.body on) count (count + parts_at p n + 1) (parts_for (name_form_at p n) count f) refl }

constructs_as : (l : LinkedFile) (out : Outer) (s : State) (n class : ℕ) (row : Shape) → owner_of l.file (newest s.frames).method ≡ Iinit class
    → let p = setting_in l out in let f = newest s.frames in Taking p s.frames (One 0x49 n) (world s out) row (drops_came acting.constructs_super) n (n + 1) 0 (operand_at n f ∷ []) [] → Does l out s (One 0x49 n) (n + 1) 0 (super_construct p class n f)
constructs_as l out s n class row owner a =
    let p = setting_in l out in
    let f = newest s.frames in
    record { ready = a.ready; does = a.does ∙ constructs_is p (here_of p a.routine f (One 0x49 n) row) f n [] (world s out) class owner }

-- ---- by the opcodes

pub op_04 : (l : LinkedFile) (out : Outer) (s : State) (n : ℕ) (x : LayoutId) → super_layout OnInstance (home_of l (owner_of l.file (newest s.frames).method)) ≡ Some x → CanRun l out s (One 0x04 n) → Does l out s (One 0x04 n) (parts_at (setting_in l out) n + 1) 1 (gets_super (setting_in l out) n x.0 (newest s.frames))
unfolding row_at table_of_rows act_of acts
op_04 l out s n x home can =
    let p = setting_in l out in
    let f = newest s.frames in
    let j = parts_at p n in
    gets_as l out s n x _ refl can.set home (taken l out s (One 0x04 n) _ _ 0 (j + 1) 1 (operand_at j f ∷ []) (parts_for (name_form_at p n) 0 f) can refl refl (no_arguments n) (named_taken p _ 0 j (j + 1) n f needed.Instance refl refl tt (zero-add j) refl) refl)

pub op_05 : (l : LinkedFile) (out : Outer) (s : State) (n : ℕ) (x : LayoutId) → super_layout OnInstance (home_of l (owner_of l.file (newest s.frames).method)) ≡ Some x → CanRun l out s (One 0x05 n) → Does l out s (One 0x05 n) (parts_at (setting_in l out) n + 2) 0 (sets_super (setting_in l out) n x.0 (newest s.frames))
unfolding row_at table_of_rows act_of acts
op_05 l out s n x home can =
    let p = setting_in l out in
    let f = newest s.frames in
    let j = parts_at p n in
    sets_as l out s n x _ refl can.set home (taken l out s (One 0x05 n) _ _ 0 (j + 2) 0 (operand_at 0 f ∷ operand_at (1 + j) f ∷ []) (parts_for (name_form_at p n) 1 f) can refl refl (no_arguments n) (valued_taken p _ (1 + j) (j + 2) n f needed.Instance refl refl tt refl (two_more j)) refl)

-- where the code took the sum
pub op_45 : (l : LinkedFile) (out : Outer) (s : State) (n count k : ℕ) (x : LayoutId) → k ≡ count + parts_at (setting_in l out) n + 1 → super_layout OnInstance (home_of l (owner_of l.file (newest s.frames).method)) ≡ Some x → CanRun l out s (Two 0x45 n count) → Does l out s (Two 0x45 n count) (count + parts_at (setting_in l out) n + 1) 1 (super_call (setting_in l out) n x.0 count (Push k) (newest s.frames))
unfolding row_at table_of_rows act_of acts
op_45 l out s n count k x sum home can =
    let p = setting_in l out in
    let f = newest s.frames in
    let j = count + parts_at p n in
    subst (λ (m : ℕ). Does l out s (Two 0x45 n count) (j + 1) 1 (super_call p n x.0 count (Push m) f)) (sym sum)
    (calls_pushing_as l out s n count x _ refl can.set home (taken l out s (Two 0x45 n count) _ _ count (j + 1) 1 (operand_at j f ∷ []) (parts_for (name_form_at p n) count f) can refl refl (all_arguments count) (named_taken p _ count j (j + 1) n f needed.Instance refl refl tt refl refl) refl))

pub op_4E : (l : LinkedFile) (out : Outer) (s : State) (n count k : ℕ) (x : LayoutId) → k ≡ count + parts_at (setting_in l out) n + 1 → super_layout OnInstance (home_of l (owner_of l.file (newest s.frames).method)) ≡ Some x → CanRun l out s (Two 0x4E n count) → Does l out s (Two 0x4E n count) (count + parts_at (setting_in l out) n + 1) 0 (super_call (setting_in l out) n x.0 count (Drop k) (newest s.frames))
unfolding row_at table_of_rows act_of acts
op_4E l out s n count k x sum home can =
    let p = setting_in l out in
    let f = newest s.frames in
    let j = count + parts_at p n in
    subst (λ (m : ℕ). Does l out s (Two 0x4E n count) (j + 1) 0 (super_call p n x.0 count (Drop m) f)) (sym sum)
    (calls_dropping_as l out s n count x _ refl can.set home (taken l out s (Two 0x4E n count) _ _ count (j + 1) 0 (operand_at j f ∷ []) (parts_for (name_form_at p n) count f) can refl refl (all_arguments count) (named_taken p _ count j (j + 1) n f needed.Instance refl refl tt refl refl) refl))

pub op_49 : (l : LinkedFile) (out : Outer) (s : State) (n class : ℕ) → owner_of l.file (newest s.frames).method ≡ Iinit class → CanRun l out s (One 0x49 n) → Does l out s (One 0x49 n) (n + 1) 0 (super_construct (setting_in l out) class n (newest s.frames))
unfolding row_at table_of_rows act_of acts
op_49 l out s n class owner can =
    let f = newest s.frames in
    constructs_as l out s n class _ owner (taken l out s (One 0x49 n) _ _ n (n + 1) 0 (operand_at n f ∷ []) [] can refl refl (all_arguments n) (λ form. one_taken _ n _ f needed.Instance refl tt) refl)
