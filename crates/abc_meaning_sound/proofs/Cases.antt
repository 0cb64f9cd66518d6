-- An instruction of a row, wherever it stands; and the shapes of acts, each once.
use Rattle.std.proofs.Common.{◌≡◌, inl, inr, ℕ, ◌+◌, List, [], ◌∷◌, ◌++◌, drop, set, refl, sym, subst}
use Rattle.std.specs.Prelude.{Bool, true, false, map, Some, if◌then◌else◌}
use Rattle.abc_heap_values.specs.declared.values.Value.{Value}
use Rattle.abc_objects.specs.Values.{Exists}
use Rattle.abc_link_names.specs.declared.types.Kind.{Kind}
use Rattle.abc_verify_typing.specs.Instructions.{local, opcode, operand, targets}
use Rattle.abc_verify_typing.specs.Rows.{Shape, row_at}
use Rattle.abc_verify_typing.specs.declared.row.Leads.TheVariants.{Next, Branches}
use Rattle.abc_verify_typing.specs.declared.row.Locals.TheVariants.{Sets}
use Rattle.abc_verify_typing.specs.declared.row.Need.TheVariants as needed
use Rattle.abc_verify_typing.specs.declared.row.RowKind.TheVariants as rows
use Rattle.abc_verify_typing.specs.declared.row.Scoping.TheVariants.{Stays as SameScopes}
use Rattle.abc_verify_typing.specs.declared.row.Source.{Source}
use Rattle.abc_verify_typing.specs.declared.row.Source.TheVariants.{Fixed}
use Rattle.abc_file_types.specs.declared.code.Instr.{Instr}
use Rattle.abc_verify_typing.specs.Effects.{Here, kind_of_source, leads, locals_after, multiname_at, needs, stack_below}
use Rattle.abc_verify_typing.specs.Lists.{Each, Each2}
use Rattle.abc_verify_typing.specs.Routines.{Routine}
use Rattle.abc_verify_typing.specs.Rules.{all_suit, suits}
use Rattle.abc_verify_typing.specs.Standing.{here_with}
use Rattle.abc_verify_typing.specs.Typing.{In}
use Rattle.abc_verify_typing.specs.declared.rule.VerifyRule.{VerifyRule}
use Rattle.abc_verify_typing.specs.declared.state.State.{State}
use Rattle.abc_verify_typing.proofs.Lists.{Each2-set}
use Rattle.abc_verify_typing.proofs.Member.{and_left}
use Rattle.abc_meaning.specs.Calling.{Came}
use Rattle.abc_frames.specs.Frame.{Frame}
use Rattle.abc_meaning.specs.Setting.{Setting}
use Rattle.abc_meaning.specs.World.{Run, World}
use Rattle.abc_meaning.specs.At.{Act, ActCase, Doing, drops_came, gives_pushed, gives_came, goes, jumps, next_frame, does_nothing, one, two, frame_with_local}
use Rattle.abc_meaning.specs.Simple.{branch_where, first_target, sets_local}
use Rattle.abc_meaning.specs.Sound.{AreTypings, IsOfKind, Typings}
use Rattle.abc_meaning.specs.Tests.{at_frame, parts_count}
use Rattle.abc_meaning_sound.specs.Given.{FileGiven, HasTarget, OpsGiven}
use Rattle.abc_meaning_sound.specs.Keeping.{ActSound, CameSound, DoingSound, EntrySound, Fares, LeavesSound, Ready}
use Rattle.abc_meaning_sound.proofs.Faring.{done_fares, then_fares}
use Rattle.abc_meaning_sound.proofs.Shapes.{IsPlainRow, KeepsRow, args_exist, came_sound, dropped_sound, gives_sound, goes_to, locals_left, moves_to, nothing_sound, scopes_left, stack_left, unslotted, unslotted_left, unslotted_unfolded}
use Rattle.abc_meaning_sound.proofs.Stepping.{entry_sound}
use Rattle.abc_meaning_sound.proofs.Taking.{one_then, plain_count, plain_of, two_then}

-- the act is sound at the row
pub record IsSoundAt (p : Setting) (typings : Typings) (op : ℕ) (row : Shape) (d : Doing) : Type 0 where
  pub so : DoingSound p typings op row d

pub entry : (p : Setting) (typings : Typings) (op : ℕ) (row : Shape) (d : Doing) → row_at op ≡ Some row → IsSoundAt p typings op row d → EntrySound p typings (op, d)
entry p typings op row d e h = entry_sound p typings op row d e h.so

-- nothing but the stack changes, and the next place follows
pub record IsPlain (row : Shape) : Type 0 where
  pub unslotted_is : unslotted row.takes ≡ true
  pub scoping : row.scoping ≡ SameScopes
  pub locals : (h : Here) (t : State) → locals_after h t row.locals ≡ t.locals
  pub leads_is : row.leads ≡ Next

-- the same, wherever it leads
pub record IsStill (row : Shape) : Type 0 where
  pub unslotted_is : unslotted row.takes ≡ true
  pub scoping : row.scoping ≡ SameScopes
  pub locals : (h : Here) (t : State) → locals_after h t row.locals ≡ t.locals
  pub gives_none : row.gives ≡ []

-- the one need that is asked of the one value
pub one_suits : (h : Here) (rule : VerifyRule) (n : ℕ) (ks : List Kind) (k : Kind) → plain_of (needed.Index ∷ []) n ks ≡ k ∷ [] → all_suit h rule (needed.Index ∷ []) ks ≡ true → suits h rule needed.Index k ≡ true
one_suits h rule n [] k e q = absurd cc
one_suits h rule n (j ∷ ks) k e q = let z : j ≡ k = cc in subst (λ i. suits h rule needed.Index i ≡ true) z (and_left _ _ q)

-- an instruction of a row, in a frame that is of the kinds of its place
pub record Case (p : Setting) (typings : Typings) (op : ℕ) (row : Shape) : Type 0 where
  pub world : World
  pub frame : Frame
  pub routine : Routine
  pub state : State
  pub instr : Instr
  pub ready : Ready p typings world frame routine state instr row
  pub is : opcode instr ≡ op

abbrev pub here_of : {p : Setting} {typings : Typings} {op : ℕ} {row : Shape} → Case p typings op row → Here
here_of {p} {typings} {op} {row} c = here_with p.linked c.routine c.frame.place c.instr row

abbrev pub at_of : {p : Setting} {typings : Typings} {op : ℕ} {row : Shape} → Case p typings op row → ActCase
at_of {p} {typings} {op} {row} c = at_frame p (here_of c) c.frame

module _ (p : Setting) (file : FileGiven p) (ops : OpsGiven p) (typings : Typings) (typed : AreTypings p typings) where
  abbrev pub Sound : ℕ → Shape → Doing → Type 0
  Sound op row d = IsSoundAt p typings op row d

  abbrev pub ActsSo : {op : ℕ} {row : Shape} → Case p typings op row → Run Act → Type 0
  ActsSo c m = Fares p c.world (m c.world) (ActSound p typings c.frame)

  -- a value of the kind of a source
  abbrev pub OfSource : {op : ℕ} {row : Shape} → Case p typings op row → Source → World → Value → Type 0
  OfSource c source n v = IsOfKind p.linked n.heap (kind_of_source (here_of c) c.state source) v

  pub by_case : (op : ℕ) (row : Shape) (d : Doing) → ((c : Case p typings op row) → ActsSo c (d (at_of c))) → Sound op row d
  by_case op row d g = record { so = λ w f r s instr ready e. g (record { world = w; frame = f; routine = r; state = s; instr = instr; ready = ready; is = e }) }

  plain : (op : ℕ) (row : Shape) → IsPlain row → (c : Case p typings op row) → IsPlainRow p file typings typed c.world c.frame c.routine c.state c.instr row c.ready
  plain op row k c = record { keeps = record { unslotted = k.unslotted_is; scoping = k.scoping; locals = λ t. k.locals (here_of c) t }; leads = k.leads_is }

  still : (op : ℕ) (row : Shape) → IsStill row → (c : Case p typings op row) → KeepsRow p file typings typed c.world c.frame c.routine c.state c.instr row c.ready
  still op row k c = record { unslotted = k.unslotted_is; scoping = k.scoping; locals = λ t. k.locals (here_of c) t }

  -- ---- what is taken

  pub taking_one : {X : Type 0} (op : ℕ) (row : Shape) → plain_count row.takes ≡ 1 → (c : Case p typings op row) → (m : Value → Run X) (R : World → X → Type 0) → ((k : Kind) (v : Value) → plain_of row.takes (parts_count (here_of c)) (stack_below (here_of c) c.state) ≡ k ∷ [] → IsOfKind p.linked c.world.heap k v → Fares p c.world (m v c.world) R) → Fares p c.world (one (at_of c) m c.world) R
  taking_one op row e c m R g = one_then p file ops typings typed c.world c.frame c.routine c.state c.instr row c.ready m R e g

  pub taking_two : {X : Type 0} (op : ℕ) (row : Shape) → plain_count row.takes ≡ 2 → (c : Case p typings op row) → (m : Value → Value → Run X) (R : World → X → Type 0) → ((k l : Kind) (x y : Value) → plain_of row.takes (parts_count (here_of c)) (stack_below (here_of c) c.state) ≡ l ∷ k ∷ [] → IsOfKind p.linked c.world.heap k x → IsOfKind p.linked c.world.heap l y → Fares p c.world (m x y c.world) R) → Fares p c.world (two (at_of c) m c.world) R
  taking_two op row e c m R g = two_then p file ops typings typed c.world c.frame c.routine c.state c.instr row c.ready m R e g

  pub given_args : (op : ℕ) (row : Shape) (c : Case p typings op row) → Each (Exists p.linked c.world.heap) (at_of c).args
  given_args op row c = args_exist p file typings typed c.world c.frame c.routine c.state c.instr row c.ready

  -- ---- a value is given

  pub gives_one : (op : ℕ) (row : Shape) (source : Source) (m : ActCase → Run Value) → IsPlain row → row.gives ≡ source ∷ [] → ((c : Case p typings op row) → Fares p c.world (m (at_of c) c.world) (OfSource c source)) → Sound op row (gives_pushed m)
  gives_one op row source m k e g = by_case op row (gives_pushed m) (λ c. gives_sound p file typings typed c.world c.frame c.routine c.state c.instr row c.ready (plain op row k c) source e m (g c))

  -- from one value, or two
  pub one_gives : (op : ℕ) (row : Shape) (source : Source) (m : ActCase → Value → Run Value) → IsPlain row → row.gives ≡ source ∷ [] → plain_count row.takes ≡ 1 → ((c : Case p typings op row) (k : Kind) (v : Value) → plain_of row.takes (parts_count (here_of c)) (stack_below (here_of c) c.state) ≡ k ∷ [] → IsOfKind p.linked c.world.heap k v → Fares p c.world (m (at_of c) v c.world) (OfSource c source)) → Sound op row (gives_pushed (λ a. one a (m a)))
  one_gives op row source m k e n g = gives_one op row source (λ a. one a (m a)) k e (λ c. taking_one op row n c (m (at_of c)) _ (g c))

  pub two_give : (op : ℕ) (row : Shape) (source : Source) (m : ActCase → Value → Value → Run Value) → IsPlain row → row.gives ≡ source ∷ [] → plain_count row.takes ≡ 2 → ((c : Case p typings op row) (k l : Kind) (x y : Value) → plain_of row.takes (parts_count (here_of c)) (stack_below (here_of c) c.state) ≡ l ∷ k ∷ [] → IsOfKind p.linked c.world.heap k x → IsOfKind p.linked c.world.heap l y → Fares p c.world (m (at_of c) x y c.world) (OfSource c source)) → Sound op row (gives_pushed (λ a. two a (m a)))
  two_give op row source m k e n g = gives_one op row source (λ a. two a (m a)) k e (λ c. taking_two op row n c (m (at_of c)) _ (g c))

  -- ---- nothing, or what comes

  pub gives_nothing : (op : ℕ) (row : Shape) → IsPlain row → row.gives ≡ [] → Sound op row does_nothing
  gives_nothing op row k e = by_case op row does_nothing (λ c. nothing_sound p file typings typed c.world c.frame c.routine c.state c.instr row c.ready (plain op row k c) e)

  pub comes : (op : ℕ) (row : Shape) (m : ActCase → Run Came) → IsPlain row → row.gives ≡ Fixed rows.Any ∷ [] → ((c : Case p typings op row) → Fares p c.world (m (at_of c) c.world) (CameSound p typings)) → Sound op row (gives_came m)
  comes op row m k e g = by_case op row (gives_came m) (λ c. came_sound p file typings typed c.world c.frame c.routine c.state c.instr row c.ready (plain op row k c) e m (g c))

  pub drops : (op : ℕ) (row : Shape) (m : ActCase → Run Came) → IsPlain row → row.gives ≡ [] → ((c : Case p typings op row) → Fares p c.world (m (at_of c) c.world) (CameSound p typings)) → Sound op row (drops_came m)
  drops op row m k e g = by_case op row (drops_came m) (λ c. dropped_sound p file typings typed c.world c.frame c.routine c.state c.instr row c.ready (plain op row k c) e m (g c))

  -- ---- it goes to a place

  pub goes_there : (op : ℕ) (row : Shape) → IsStill row → (c : Case p typings op row) (t : ℕ) → In t (leads (here_of c) row.leads) → (n : World) → LeavesSound p c.world n → Fares p n (goes (jumps t (at_of c).rest) n) (ActSound p typings c.frame)
  goes_there op row k c t i n l = goes_to p file typings typed c.world c.frame c.routine c.state c.instr row c.ready (still op row k c) k.gives_none t i n l

  pub target_of : (op : ℕ) (row : Shape) (c : Case p typings op row) → HasTarget row.leads (targets c.instr)
  target_of op row c = (file.formed c.frame.method c.routine c.frame.place c.instr c.ready.body c.ready.at).target row c.ready.row_is

  first_in : (ts : List ℕ) → HasTarget Branches ts → In (first_target ts) ts
  first_in [] h = absurd h
  first_in (t ∷ ts) h = inl refl

  -- a branch, by a test
  pub branches_so : (op : ℕ) (row : Shape) (test : ActCase → Run Bool) → IsStill row → row.leads ≡ Branches → ((c : Case p typings op row) → Fares p c.world (test (at_of c) c.world) (λ n b. Unit {0})) → Sound op row (branch_where test)
  branches_so op row test k e g = by_case op row (branch_where test) (λ c. then_fares p c.world _ _ _ _ (g c) (λ n b l u. go c n b l))
    where
      go : (c : Case p typings op row) (n : World) (b : Bool) → LeavesSound p c.world n → Fares p n (goes (if b then jumps (first_target (targets c.instr)) (at_of c).rest else next_frame (at_of c).rest) n) (ActSound p typings c.frame)
      go c n true l = goes_there op row k c (first_target (targets c.instr)) (subst (λ x. In (first_target (targets c.instr)) (leads (here_of c) x)) (sym e) (inr (first_in (targets c.instr) (subst (λ x. HasTarget x (targets c.instr)) e (target_of op row c))))) n l
      go c n false l = goes_there op row k c (c.frame.place + 1) (subst (λ x. In (c.frame.place + 1) (leads (here_of c) x)) (sym e) (inl refl)) n l

  -- ---- a local is set

  pub sets : (op : ℕ) (row : Shape) (source : Source) → unslotted row.takes ≡ true → row.scoping ≡ SameScopes → row.locals ≡ Sets source → row.leads ≡ Next → row.gives ≡ [] → (c : Case p typings op row) (n : World) (v : Value) → LeavesSound p c.world n → OfSource c source n v → Fares p n (sets_local (at_of c) v n) (ActSound p typings c.frame)
  sets op row source us sc lo le gi c n v l hv =
      let w = c.world in
      let f = c.frame in
      let h = here_of c in
      let stack = stack_left p file typings typed w f c.routine c.state c.instr row c.ready n l in
      let scopes = scopes_left p file typings typed w f c.routine c.state c.instr row c.ready n l in
      let locals = locals_left p file typings typed w f c.routine c.state c.instr row c.ready n l in
      done_fares p n _ _ l.sound (
        refl,
        moves_to p file typings typed w f c.routine c.state c.instr row c.ready n l (next_frame (frame_with_local (local c.instr) v (at_of c).rest)) (f.place + 1) (subst (λ x. In (f.place + 1) (leads h x)) (sym le) (inl refl))
            (unslotted_left (needs h) (stack_below h c.state) (unslotted_unfolded (multiname_at p.linked (operand c.instr)) row.takes us))
            (record { method = refl; home = refl; saved = refl; place = refl; wait = refl })
            (record {
              stack = subst (λ x. Each2 (IsOfKind p.linked n.heap) (map (kind_of_source h c.state) x ++ drop (Rattle.abc_verify_typing.specs.Effects.depth h) c.state.stack) (drop (Rattle.abc_verify_typing.specs.Effects.depth h) f.stack)) (sym gi) stack;
              scopes = subst (λ x. Each2 (Rattle.abc_meaning.specs.Sound.ScopeHolds p.linked n.heap) (Rattle.abc_verify_typing.specs.Effects.scopes_after h c.state x) f.scopes) (sym sc) scopes;
              locals = subst (λ x. Each2 (IsOfKind p.linked n.heap) (locals_after h c.state x) (set f.locals (local c.instr) v)) (sym lo) (Each2-set (IsOfKind p.linked n.heap) (local c.instr) c.state.locals f.locals _ v locals hv);
            }),
      )
