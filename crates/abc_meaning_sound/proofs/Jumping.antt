-- Branches, throws and returns.
use Rattle.std.proofs.Common.{◌≡◌, inl, inr, ℕ, zero, suc, List, [], ◌∷◌, get_or, refl, sym, subst, arith}
use Rattle.std.specs.Prelude.{Bool, true, not, pos, negsuc, Some}
use Rattle.abc_heap_values.specs.declared.values.Value.{Value}
use Rattle.abc_heap_values.specs.declared.values.Value.TheVariants.{Undefined, Num}
use Rattle.abc_heap_values.specs.Numbers.{truth_of}
use Rattle.abc_objects.specs.Values.{Exists}
use Rattle.abc_link_names.specs.declared.types.Kind.{Kind}
use Rattle.abc_link_names.specs.declared.types.Kind.TheVariants as kinds
use Rattle.abc_verify_typing.specs.Instructions.{targets}
use Rattle.abc_verify_typing.specs.Rows.{Shape, leading, shape_with, row_at, table_of_rows, two_values, value}
use Rattle.abc_verify_typing.specs.declared.row.Leads.TheVariants.{Branches, Jumps, Switches, Ends}
use Rattle.abc_verify_typing.specs.declared.row.Need.TheVariants as needed
use Rattle.abc_verify_typing.specs.Effects.{stack_below}
use Rattle.abc_verify_typing.specs.Lists.{Each}
use Rattle.abc_verify_typing.specs.Rules.{is_kind_number}
use Rattle.abc_verify_typing.specs.Typing.{In}
use Rattle.abc_verify_typing.specs.declared.rule.VerifyRule.TheVariants.{NotIndex}
use Rattle.abc_verify_typing.proofs.Member.{and_left}
use Rattle.abc_meaning.specs.Ops.{compares}
use Rattle.abc_meaning.specs.Setting.{Setting, method_of}
use Rattle.abc_meaning.specs.World.{Throws, pure, stop, ◌>>=◌}
use Rattle.abc_meaning.specs.At.{Doing, Returns, goes, jumps, does_nothing, one, two}
use Rattle.abc_meaning.specs.Simple.{branch_where, first_target, returns, switch_target, switches, where_not, where_so}
use Rattle.abc_meaning.specs.Table.{jumping_acts}
use Rattle.abc_meaning.specs.Sound.{AreTypings, IsOfKind, Typings}
use Rattle.abc_meaning.specs.Tests.{parts_count}
use Rattle.abc_meaning_sound.specs.Given.{FileGiven, HasTarget, OpsGiven}
use Rattle.abc_meaning_sound.specs.Keeping.{ActSound, EntrySound, Fares}
use Rattle.abc_meaning_sound.proofs.Cases.{Case, Sound, at_of, branches_so, by_case, gives_nothing, goes_there, here_of, one_suits, taking_one, taking_two, target_of, entry}
use Rattle.abc_meaning_sound.proofs.Entered.{coerces_to_fares}
use Rattle.abc_meaning_sound.proofs.Faring.{done_fares, leaves_self, some_then, stop_fares, then_fares}

in_get : (ts : List ℕ) (n d : ℕ) → In (get_or ts n d) (d ∷ ts)
in_get [] n d = inl refl
in_get (t ∷ ts) zero d = inr (inl refl)
in_get (t ∷ ts) (suc n) d = elim (in_get ts n d) [ inl e ↦ inl e | inr k ↦ inr (inr k) ]

module _ (p : Setting) (file : FileGiven p) (ops : OpsGiven p) (typings : Typings) (typed : AreTypings p typings) where
  compared : (op : ℕ) (r : Shape) (comparison : ℕ) → Rattle.abc_meaning_sound.proofs.Taking.plain_count r.takes ≡ 2 → (c : Case p typings op r) → Fares p c.world (two (at_of c) (compares p comparison) c.world) (λ n b. Unit {0})
  compared op r comparison e c = taking_two p file ops typings typed op r e c _ _ (λ k l x y q hx hy. ops.compare c.world comparison x y c.ready.world)

  if_so : (op comparison : ℕ) → Sound p file ops typings typed op (leading Branches (shape_with two_values [])) (where_so comparison)
  if_so op comparison = branches_so p file ops typings typed op (leading Branches (shape_with two_values [])) (λ a. two a (compares a.setting comparison)) (record { unslotted_is = refl; scoping = refl; locals = λ h t. refl; gives_none = refl }) refl (λ c. compared op (leading Branches (shape_with two_values [])) comparison refl c)

  if_not : (op comparison : ℕ) → Sound p file ops typings typed op (leading Branches (shape_with two_values [])) (where_not comparison)
  if_not op comparison = branches_so p file ops typings typed op (leading Branches (shape_with two_values [])) (λ a. two a (compares a.setting comparison) >>= λ b. pure (not b)) (record { unslotted_is = refl; scoping = refl; locals = λ h t. refl; gives_none = refl }) refl (λ c. then_fares p c.world _ _ _ _ (compared op (leading Branches (shape_with two_values [])) comparison refl c) (λ n b l u. done_fares p n (not b) _ l.sound tt))

  if_true : (op : ℕ) (test : Value → Bool) → Sound p file ops typings typed op (leading Branches (shape_with value [])) (branch_where (λ a. one a λ v. pure (test v)))
  if_true op test = branches_so p file ops typings typed op (leading Branches (shape_with value [])) (λ a. one a λ v. pure (test v)) (record { unslotted_is = refl; scoping = refl; locals = λ h t. refl; gives_none = refl }) refl (λ c. taking_one p file ops typings typed op (leading Branches (shape_with value [])) refl c (λ v. pure (test v)) _ (λ k v q hv. done_fares p c.world (test v) _ c.ready.world tt))

  first_jump : (ts : List ℕ) → HasTarget Jumps ts → In (first_target ts) ts
  first_jump [] h = absurd h
  first_jump (t ∷ ts) h = inl refl

  jump : Sound p file ops typings typed 0x10 (leading Jumps (shape_with [] [])) (branch_where (λ a. pure true))
  jump = by_case p file ops typings typed 0x10 (leading Jumps (shape_with [] [])) (branch_where (λ a. pure true)) (λ c. goes_there p file ops typings typed 0x10 (leading Jumps (shape_with [] [])) (record { unslotted_is = refl; scoping = refl; locals = λ h t. refl; gives_none = refl }) c (first_target (targets c.instr)) (first_jump (targets c.instr) (target_of p file ops typings typed 0x10 (leading Jumps (shape_with [] [])) c)) c.world (leaves_self p c.world c.ready.world))

  abbrev switch_row : Shape
  switch_row = leading Switches (shape_with (needed.Index ∷ []) [])

  switch : Sound p file ops typings typed 0x1B switch_row switches
  switch = by_case p file ops typings typed 0x1B switch_row switches (λ c. taking_one p file ops typings typed 0x1B switch_row refl c _ _ (λ k v q hv. at c k v hv (one_suits (here_of c) NotIndex (parts_count (here_of c)) (stack_below (here_of c) c.state) k q (and_left _ _ (c.ready.kept NotIndex))) (targets c.instr) refl (target_of p file ops typings typed 0x1B switch_row c)))
    where
      to : (c : Case p typings 0x1B switch_row) (t : ℕ) → In t (targets c.instr) → Fares p c.world (goes (jumps t (at_of c).rest) c.world) (ActSound p typings c.frame)
      to c t i = goes_there p file ops typings typed 0x1B switch_row (record { unslotted_is = refl; scoping = refl; locals = λ h t. refl; gives_none = refl }) c t i c.world (leaves_self p c.world c.ready.world)

      on : (c : Case p typings 0x1B switch_row) (v : Value) → (n : Rattle.std.specs.Prelude.ℤ) → v ≡ Num n → (ts : List ℕ) → targets c.instr ≡ ts → HasTarget Switches ts → Fares p c.world ((switch_target ts v >>= λ t. goes (jumps t (at_of c).rest)) c.world) (ActSound p typings c.frame)
      on c v n e [] is h = absurd h
      on c v (pos n) e (d ∷ ts) is h = subst (λ x. Fares p c.world ((switch_target (d ∷ ts) x >>= λ t. goes (jumps t (at_of c).rest)) c.world) (ActSound p typings c.frame)) (sym e) (to c (get_or ts n d) (subst (In (get_or ts n d)) (sym is) (in_get ts n d)))
      on c v (negsuc n) e (d ∷ ts) is h = subst (λ x. Fares p c.world ((switch_target (d ∷ ts) x >>= λ t. goes (jumps t (at_of c).rest)) c.world) (ActSound p typings c.frame)) (sym e) (to c d (subst (In d) (sym is) (inl refl)))

      at : (c : Case p typings 0x1B switch_row) (k : Kind) (v : Value) → IsOfKind p.linked c.world.heap k v → is_kind_number k ≡ true → (ts : List ℕ) → targets c.instr ≡ ts → HasTarget Switches ts → Fares p c.world ((switch_target ts v >>= λ t. goes (jumps t (at_of c).rest)) c.world) (ActSound p typings c.frame)
      at c k (Num n) hv e ts is h = on c (Num n) n refl ts is h
      at c kinds.Num v hv e ts is h = absurd (let q = hv.kind in grind (arith, q))
      at c k v hv e ts is h = absurd cc

  throws_it : Sound p file ops typings typed 0x03 (leading Ends (shape_with value [])) (λ a. one a λ v. stop (Throws v))
  throws_it = by_case p file ops typings typed 0x03 (leading Ends (shape_with value [])) (λ a. one a λ v. stop (Throws v)) (λ c. taking_one p file ops typings typed 0x03 (leading Ends (shape_with value [])) refl c (λ v. stop (Throws v)) _ (λ k v q hv. stop_fares p c.world (Throws v) _ c.ready.world hv.exists))

  -- what returns is coerced to the return type
  returns_fares : (op : ℕ) (r : Shape) (c : Case p typings op r) (v : Value) → Exists p.linked c.world.heap v → Fares p c.world (returns p c.frame v c.world) (ActSound p typings c.frame)
  returns_fares op r c v e =
      let i = file.methods c.frame.method c.routine c.ready.body in
      some_then p c.world (method_of p c.frame.method) i.method _ _ i.at (then_fares p c.world _ _ _ _ (coerces_to_fares p file ops c.world i.method.ret v i.ret c.ready.world e) (λ n x l hx. done_fares p n (Returns x) _ l.sound hx.exists))

  returnvoid : Sound p file ops typings typed 0x47 (leading Ends (shape_with [] [])) (λ a. returns a.setting a.frame Undefined)
  returnvoid = by_case p file ops typings typed 0x47 (leading Ends (shape_with [] [])) (λ a. returns a.setting a.frame Undefined) (λ c. returns_fares 0x47 (leading Ends (shape_with [] [])) c Undefined tt)

  returnvalue : Sound p file ops typings typed 0x48 (leading Ends (shape_with value [])) (λ a. one a (returns a.setting a.frame))
  returnvalue = by_case p file ops typings typed 0x48 (leading Ends (shape_with value [])) (λ a. one a (returns a.setting a.frame)) (λ c. taking_one p file ops typings typed 0x48 (leading Ends (shape_with value [])) refl c (returns p c.frame) _ (λ k v q hv. returns_fares 0x48 (leading Ends (shape_with value [])) c v hv.exists))

  abbrev E : ℕ × Doing → Type 0
  E = EntrySound p typings

  nop : (op : ℕ) → row_at op ≡ Some (shape_with [] []) → E (op, does_nothing)
  nop op e = entry p typings op (shape_with [] []) does_nothing e (gives_nothing p file ops typings typed op (shape_with [] []) (record { unslotted_is = refl; scoping = refl; locals = λ h t. refl; leads_is = refl }) refl)

  nop_debug : (op : ℕ) → row_at op ≡ Some (Rattle.abc_verify_typing.specs.Rows.naming_shape Rattle.abc_verify_typing.specs.declared.row.Operand.TheVariants.StringAt (shape_with [] [])) → E (op, does_nothing)
  nop_debug op e = entry p typings op (Rattle.abc_verify_typing.specs.Rows.naming_shape Rattle.abc_verify_typing.specs.declared.row.Operand.TheVariants.StringAt (shape_with [] [])) does_nothing e (gives_nothing p file ops typings typed op (Rattle.abc_verify_typing.specs.Rows.naming_shape Rattle.abc_verify_typing.specs.declared.row.Operand.TheVariants.StringAt (shape_with [] [])) (record { unslotted_is = refl; scoping = refl; locals = λ h t. refl; leads_is = refl }) refl)

  branch_so : (op comparison : ℕ) → row_at op ≡ Some (leading Branches (shape_with two_values [])) → E (op, where_so comparison)
  branch_so op comparison e = entry p typings op _ (where_so comparison) e (if_so op comparison)

  branch_not : (op comparison : ℕ) → row_at op ≡ Some (leading Branches (shape_with two_values [])) → E (op, where_not comparison)
  branch_not op comparison e = entry p typings op _ (where_not comparison) e (if_not op comparison)

  pub jumping_hold : (rest : List (ℕ × Doing)) → Each (EntrySound p typings) rest → Each (EntrySound p typings) (jumping_acts rest)
  unfolding row_at table_of_rows
  jumping_hold rest more = (
    nop 0x02 refl,
    (
      nop 0x09 refl,
      (
        nop 0xF0 refl,
        (
          nop_debug 0xEF refl,
          (
            nop_debug 0xF1 refl,
            (
              entry p typings 0x03 (leading Ends (shape_with value [])) _ refl throws_it,
              (
                entry p typings 0x47 (leading Ends (shape_with [] [])) _ refl returnvoid,
                (
                  entry p typings 0x48 (leading Ends (shape_with value [])) _ refl returnvalue,
                  (
                    branch_not 0x0C 0xAD refl,
                    (
                      branch_not 0x0D 0xAE refl,
                      (
                        branch_not 0x0E 0xAF refl,
                        (
                          branch_not 0x0F 0xB0 refl,
                          (
                            entry p typings 0x10 (leading Jumps (shape_with [] [])) _ refl jump,
                            (
                              entry p typings 0x11 (leading Branches (shape_with value [])) _ refl (if_true 0x11 truth_of),
                              (
                                entry p typings 0x12 (leading Branches (shape_with value [])) _ refl (if_true 0x12 (λ v. not (truth_of v))),
                                (
                                  branch_so 0x13 0xAB refl,
                                  (
                                    branch_not 0x14 0xAB refl,
                                    (
                                      branch_so 0x15 0xAD refl,
                                      (
                                        branch_so 0x16 0xAE refl,
                                        (
                                          branch_so 0x17 0xAF refl,
                                          (
                                            branch_so 0x18 0xB0 refl,
                                            (
                                              branch_so 0x19 0xAC refl,
                                              (
                                                branch_not 0x1A 0xAC refl,
                                                (
                                                  entry p typings 0x1B (leading Switches (shape_with (needed.Index ∷ []) [])) _ refl switch,
                                                  more,
                                                ),
                                              ),
                                            ),
                                          ),
                                        ),
                                      ),
                                    ),
                                  ),
                                ),
                              ),
                            ),
                          ),
                        ),
                      ),
                    ),
                  ),
                ),
              ),
            ),
          ),
        ),
      ),
    ),
  )
