-- A machine that is ready can be called, and what a call leaves can be called again.
use Rattle.std.proofs.Common.{◌≡◌, ◌≢◌, ℕ, List, [], Bool, true, false, refl, sym, ap, ◌∙◌, subst}
use Rattle.std.specs.Prelude.{None, Some}
use Rattle.std.specs.declared.option.Option.{Option}
use Rattle.abc_base.specs.Hosts.{AreFormulas, plain_arguments}
use Rattle.abc_base.specs.declared.formula.Formula.{Formula}
use Rattle.abc_base.specs.declared.plain.Plain.{Plain}
use Rattle.abc_machine.specs.Calling.{CanCall}
use Rattle.abc_meaning_sound.proofs.Given.{calls_give}
use Rattle.abc_meaning_sound.proofs.Left.{calls_left}
use Rattle.abc_meaning.specs.Calls.{Gives, Replied, call_meaning, silent}
use Rattle.abc_meaning.specs.Exports.{IsScriptMethod}
use Rattle.abc_heap_values.specs.declared.values.Span.{Span}
use Rattle.abc_heap_values.specs.declared.values.Value.{Value}
use Rattle.abc_heap_values.specs.declared.values.Value.TheVariants as values
use Rattle.abc_run_finish.proofs.Listed.{each_number}
use Rattle.abc_run_finish.specs.Ending.{IsSized}
use Rattle.abc_run_calls.specs.Arguments.{HasArgumentRoom}
use Rattle.abc_meaning_sound.proofs.Typed.{has_typings}
use Rattle.abc_heap_store.specs.Heap.{Heap}
use Rattle.abc_heap_store.specs.Texts.{IsText}
use Rattle.abc_machine.specs.Invoked.{AnswersCall, call_of}
use Rattle.abc_machine.specs.Machines.{CanGoOn, IsReadyToCall, MachineKeeps, Opened, kept_world}
use Rattle.abc_machine.specs.Replied.{IsReplyOf, RepliesAs, failed, is_write_fault, plain_value, replied}
use Rattle.abc_machine.specs.Runs.{LeavesWorld}
use Rattle.abc_machine.specs.declared.ends.End.{End}
use Rattle.abc_machine.specs.declared.ends.End.TheVariants as ends
use Rattle.abc_machine.specs.declared.replies.PlainValue.TheVariants as plains
use Rattle.abc_machine.specs.declared.replies.Reply.{Reply}
use Rattle.abc_machine.specs.declared.replies.Reply.TheVariants as replies
use Rattle.abc_machine.proofs.Keeping.{Drops, can_go_on, kept_is}
use Rattle.abc_machine.proofs.TextsKept.{keeps_texts}
use Rattle.abc_machine.specs.Texts.{KeepsTexts, TextsGrow}
use Rattle.abc_machine.proofs.Opening.{verified_setting, viewed}
use Rattle.abc_meaning.specs.ThrowLaws.{IsVerifiedSetting}
use Rattle.abc_meaning.specs.Sound.{WorldSound}
use Rattle.abc_objects.specs.Opening.{formula_names}
use Rattle.abc_objects.specs.Values.{Exists}
use Rattle.abc_meaning.specs.Openings.{setting}
use Rattle.abc_link_names.specs.Linked.{IsLinkedFile, LinkedFile}
use Rattle.abc_meaning.specs.World.{World}
use Rattle.abc_run_state.specs.declared.state.State.{State}
use Rattle.abc_verify.proofs.Methods.{all_typed}
use Rattle.abc_verify.specs.Typed.{IsVerified as IsChecked}

-- ---- a text that is told

told_text : (v : Value) (s : Span) → plain_value v ≡ plains.Text s → v ≡ values.Text s
told_text values.Undefined s e = absurd cc
told_text values.Null s e = absurd cc
told_text (values.Num n) s e = absurd cc
told_text (values.Bool b) s e = absurd cc
told_text (values.Text t) s e = let same : t ≡ s = cc in ap (λ (x : Span). values.Text x) same
told_text (values.Space n) s e = absurd cc
told_text (values.Obj o) s e = absurd cc

pub replied_so : (r : Replied) (x z : Option (List ℕ)) (reply : Reply) → RepliesAs r x z reply → reply ≢ replies.WriteFault → IsReplyOf r.reply reply
replied_so r x z reply (replied q answer is got) f = is
replied_so r x z reply (failed q front) f = absurd (f refl)

-- the text that a call gives is there, in the heap that it leaves
text_there : (p : LinkedFile) (r : Replied) (x z : Option (List ℕ)) (s : Span) → RepliesAs r x z (replies.Value (plains.Text s)) → ((v : Value) → r.reply ≡ Gives v → Exists p r.world.heap v) → IsText p.file.strings r.world.heap s
text_there p r x z s a there =
    let t = replied_so r x z (replies.Value (plains.Text s)) a (λ e. absurd cc) in
    let v : t.value ≡ values.Text s = told_text t.value s t.told in
    subst (Exists p r.world.heap) v (there t.value t.gives)

-- texts that there were can be told still, however the call ended
pub call_texts : (k : LinkedFile) (s t u : State) (e : Option End) (closed shut : Bool) (n : ℕ) (m : Opened) → viewed k s e closed n ≡ m → TextsGrow s.arena t.arena → u.arena ≡ t.arena → KeepsTexts m (viewed k u e shut n)
call_texts k s t u e closed shut n m shown g same =
    subst (λ (o : Opened). KeepsTexts o (viewed k u e shut n)) shown (keeps_texts (viewed k s e closed n) (viewed k u e shut n) refl (subst (TextsGrow s.arena) (sym same) g))

-- ---- writing didn't fail

not_fault : (reply : Reply) (closed : Bool) → closed ≡ is_write_fault reply → closed ≡ false → reply ≢ replies.WriteFault
not_fault reply closed e still f = absurd (let two : true ≡ false = sym (ap is_write_fault f) ∙ sym e ∙ still in cc)

module _ (l k : LinkedFile) (fs : List Formula) (s : State) (e : Option End) (closed : Bool) (seen : List Bool) (n : ℕ) (m : Opened) (same : l ≡ k) (shown : viewed k s e closed n ≡ m) (ready : IsReadyToCall m) (keeps : MachineKeeps k s seen e closed) (named : formula_names fs ≡ m.names) (method : ℕ) (exported : IsScriptMethod (setting m.linked fs) method) where
  done : e ≡ m.ended
  done = ap (λ (o : Opened). o.ended) shown

  goes_on : CanGoOn k s
  goes_on = keeps.goes_on (done ∙ ready.done) (ap (λ (o : Opened). o.closed) shown ∙ ready.still)

  names : formula_names fs ≡ s.arena.formulas
  names = named ∙ ap (λ (o : Opened). o.names) (sym shown)

  sound : WorldSound (setting l fs) (kept_world s)
  sound = subst (λ (i : LinkedFile). WorldSound (setting i fs) (kept_world s)) (sym same) (goes_on.sound fs names)

  exported_here : IsScriptMethod (setting l fs) method
  exported_here = subst (λ (i : LinkedFile). IsScriptMethod (setting i fs) method) (ap (λ (o : Opened). o.linked) (sym shown) ∙ sym same) exported

  known : HasArgumentRoom l s.given.limit
  known = subst (λ (i : LinkedFile). HasArgumentRoom i s.given.limit) (sym same) goes_on.known

  module _ (linked : IsLinkedFile l) (typed : IsChecked k) (host : AreFormulas fs) where
    verified : IsVerifiedSetting (setting l fs)
    verified = verified_setting l fs linked (all_typed l linked (subst IsChecked (sym same) typed)) host

    pub can_call : CanCall l (record { formulas = fs; wrote = [] }) method s
    can_call = record {
      verified = verified;
      sound = sound;
      none = goes_on.none;
      sized = subst (λ (i : LinkedFile). IsSized (setting i fs) s.arena.limits s.frames) (sym same) (goes_on.sized fs);
      known = known;
      exported = exported_here;
    }

    -- ---- what it comes to, and the state after it, and that without its frames

    module _ (args : Plain) (fuel : ℕ) where
      abbrev at_file : LinkedFile → Replied
      at_file i = call_meaning (setting i fs) fuel (kept_world s) method (plain_arguments args)

      left_sound : WorldSound (setting l fs) (at_file l).world
      left_sound = (let t = has_typings (setting l fs) verified in (calls_left (setting l fs) t.0 fuel (kept_world s) method (plain_arguments args) verified t.1 sound exported_here (each_number args)).0)

      module _ (t u : State) (reply : Reply) (shut : Bool) (shuts : shut ≡ is_write_fault reply) (leaves : reply ≢ replies.WriteFault → LeavesWorld (setting l fs) (at_file l).world t) (drops : Drops t u) (limit : t.given.limit ≡ s.given.limit) where
        not_fresh : {X : Type 0} → e ≡ None → X
        not_fresh q = absurd (let two : Some ends.Done ≡ None = sym (done ∙ ready.done) ∙ q in cc)

        pub call_keeps : MachineKeeps k u seen e shut
        call_keeps = record {
          begins = λ q. not_fresh q;
          noted = λ q. not_fresh q;
          goes_on = λ q still. subst (λ (i : LinkedFile). CanGoOn i u) same (can_go_on l fs (at_file l).world t u left_sound (leaves (not_fault reply shut shuts still)) drops (subst (HasArgumentRoom l) (sym limit) known));
        }

        left_is : reply ≢ replies.WriteFault → kept_world u ≡ silent (at_file l).world
        left_is f = kept_is (setting l fs) (at_file l).world t u (leaves f) drops

        pub call_answers : (x z : Option (List ℕ)) → RepliesAs (at_file l) x z reply → AnswersCall m (viewed k u e shut n) (call_of method args fuel fs) x z reply
        call_answers x z a =
            subst (λ (o : Opened). AnswersCall o (viewed k u e shut n) (call_of method args fuel fs) x z reply) shown (record {
              replies = subst (λ (i : LinkedFile). RepliesAs (at_file i) x z reply) same a;
              world = λ f. left_is f ∙ ap (λ (i : LinkedFile). silent (at_file i).world) same;
              names = λ f. ap (λ (w : World). w.heap.formulas) (left_is f) ∙ left_sound.formulas ∙ names;
              closed = shuts;
              ended = refl;
              linked = refl;
              steps = refl;
            })

        pub call_text : (x z : Option (List ℕ)) (span : Span) → RepliesAs (at_file l) x z reply → reply ≡ replies.Value (plains.Text span) → IsText k.file.strings u.arena span
        call_text x z span a is =
            let gives : RepliesAs (at_file l) x z (replies.Value (plains.Text span)) = subst (RepliesAs (at_file l) x z) is a in
            let there = text_there l (at_file l) x z span gives (λ v q. calls_give (setting l fs) fuel (kept_world s) method (plain_arguments args) v verified sound exported_here (each_number args) q) in
            let heap : u.arena ≡ (at_file l).world.heap = ap (λ (w : World). w.heap) (left_is (λ f. absurd (let two : replies.Value (plains.Text span) ≡ replies.WriteFault = sym is ∙ f in cc))) in
            subst (λ (i : LinkedFile). IsText i.file.strings u.arena span) same (subst (λ (h : Heap). IsText l.file.strings h span) (sym heap) there)
