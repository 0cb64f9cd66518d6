-- What the words say, or where they stop to say anything.
use Rattle.std.proofs.Common.{◌≡◌, ◌≢◌, ◌⊎◌, inl, inr, ℕ, zero, suc, ◌+◌, ◌<◌, ◌≤◌, Bool, true, false, cond, Option, Some, None, Ok, Err, unwrap_or, List, [], ◌∷◌, ◌++◌, take, drop, refl, sym, ap, subst, ◌∙◌, arith, one-add, add-one}
use Rattle.std.specs.Prelude.{All, codes}
use Rattle.std.specs.Option.{option_map}
use Rattle.std.specs.Str.{bytes_eq}
use Rattle.std.specs.declared.result.Result.{Result}
use Rattle.std.proofs.lemmas.List.{append-nil, append_assoc, take-append-drop, take-take, take_all}
use Rattle.std.proofs.lemmas.List.Elements.{All-cons, All-head, All-tail}
use Rattle.std.proofs.lemmas.Iterator.Adapters.{option_map_id}
use Rattle.std.proofs.lemmas.Slice.Eq.{bytes_eq-Decides}
use Rattle.abc_cli_answers.specs.declared.command.Command.{Command}
use Rattle.abc_cli_answers.specs.declared.command.Command.TheVariants as commands
use Rattle.abc_cli_answers.specs.declared.command.RunOptions.{RunOptions}
use Rattle.abc_cli_answers.specs.declared.command.Usage.{Usage}
use Rattle.abc_cli_answers.specs.declared.command.Usage.TheVariants as usages
use Rattle.abc_cli_answers.specs.declared.given.GivenRun.{GivenRun}
use Rattle.abc_cli_answers.specs.declared.given.GivenGen.{GivenGen}
use Rattle.abc_cli_answers.specs.declared.given.GivenNone.{GivenNone}
use Rattle.abc_cli_answers.specs.declared.given.GivenCalls.{GivenCalls}
use Rattle.abc_cli_answers.specs.Commands.{CommandOption, OptionSetting, option_setting, word_of, settings_of, fuel, objects_option, cells, text_option, frames, stack, seed, methods, times_option}
use Rattle.abc_cli_answers.specs.Grammar.{GiveAll, Says, IsWellFormed, CanBeginWords, IsUsageWord, IsDefault}
use Rattle.abc_cli_answers.specs.Grammar.GiveAll.{none}
use Rattle.abc_cli_answers.specs.Reading.{after_words, as_command, command_of, plain_command, run_with, gen_with, none_with, calls_with, run_start, gen_start, calls_start, run_options_of, gen_options_of, calls_options_of, can_take, some_if}
use Rattle.abc_cli_answers.proofs.Places.{Place, place, Agree, agrees, left_of, put, have_own_names}
use Rattle.abc_cli_answers.proofs.Steps.{IsRefused, words_taken, words_again, words_refused}

-- the result is what the words say
pub record IsAnswer (words : List (List ℕ)) (r : Result Command Usage) : Type 0 where
  pub says : (c : Command) → r ≡ Ok c → Says words c
  pub only : (c d : Command) → r ≡ Ok c → Says words d → d ≡ c
  pub empty : r ≡ Err usages.NoCommand → words ≡ []
  pub usage : (i : ℕ) → r ≡ Err (usages.Word i) → IsUsageWord words i

-- ---- the settings at the end

abbrev finals : List Place → List OptionSetting
finals [] = []
finals (place o given ∷ places) = option_setting o (unwrap_or given o.default) ∷ finals places

agrees_final : (given : Option ℕ) (d : ℕ) → agrees given (unwrap_or given d)
agrees_final None d = tt
agrees_final (Some n) d = refl

Agree-finals : (places : List Place) → Agree places (finals places)
Agree-finals [] = tt
Agree-finals (place o given ∷ places) = (refl, agrees_final given o.default, Agree-finals places)

finals_left : (places : List Place) → All IsDefault (left_of places (finals places))
finals_left [] = λ k d lt. absurd (omega arith)
finals_left (place o None ∷ places) = All-cons IsDefault (option_setting o o.default) (left_of places (finals places)) refl (finals_left places)
finals_left (place o (Some n) ∷ places) = finals_left places

finals_only : (places : List Place) (settings : List OptionSetting) → Agree places settings → All IsDefault (left_of places settings) → settings ≡ finals places
finals_only [] [] agree all = refl
finals_only [] (s ∷ settings) agree all = absurd agree
finals_only (p ∷ places) [] agree all = absurd agree
finals_only (place o None ∷ places) (s ∷ settings) agree all =
    let default : s.number ≡ s.option.default = All-head IsDefault s (left_of places settings) all in
    let number : s.number ≡ o.default = default ∙ ap (λ (x : CommandOption). x.default) agree.0 in
    let same : s ≡ option_setting o o.default = ap (λ (x : CommandOption). option_setting x s.number) agree.0 ∙ ap (option_setting o) number in
    let rest = finals_only places settings agree.2 (All-tail IsDefault s (left_of places settings) all) in
    ap (λ (x : OptionSetting). x ∷ settings) same ∙ ap (λ (l : List OptionSetting). option_setting o o.default ∷ l) rest
finals_only (place o (Some n) ∷ places) (s ∷ settings) agree all =
    let same : s ≡ option_setting o n = ap (λ (x : CommandOption). option_setting x s.number) agree.0 ∙ ap (option_setting o) agree.1 in
    let rest = finals_only places settings agree.2 all in
    ap (λ (x : OptionSetting). x ∷ settings) same ∙ ap (λ (l : List OptionSetting). option_setting o n ∷ l) rest

all_given : {settings : List OptionSetting} → GiveAll [] settings → All IsDefault settings
all_given (none all) = all

head_same : (x y : List ℕ) (xs ys : List (List ℕ)) → x ∷ xs ≡ y ∷ ys → x ≡ y
head_same x y xs ys e = cc

tail_same : (x y : List ℕ) (xs ys : List (List ℕ)) → x ∷ xs ≡ y ∷ ys → xs ≡ ys
tail_same x y xs ys e = cc

-- ---- one command

module _ (G : Type 0) (with : G → List ℕ → ℕ → Option G) (places : G → List Place) (same : (g : G) (name : List ℕ) (n : ℕ) → option_map places (with g name n) ≡ put (places g) name n) (own : (g : G) → have_own_names (places g) ≡ true)
    (start : G) (first : List ℕ) (command : G → Command) (named : (g : G) → word_of (command g) ≡ first) (settled : (g : G) → settings_of (command g) ≡ finals (places g))
    (begins : (c : Command) → word_of c ≡ first → Agree (places start) (settings_of c) × (left_of (places start) (settings_of c) ≡ settings_of c))
    (back : List OptionSetting → Command) (again : (c : Command) → word_of c ≡ first → back (settings_of c) ≡ c) where
  one_says : (words : List (List ℕ)) (g : G) (i : ℕ) → after_words with start i words ≡ Ok g → Says (first ∷ words) (command g)
  one_says words g i e =
      let agree = subst (λ (l : List OptionSetting). Agree (places g) l) (sym (settled g)) (Agree-finals (places g)) in
      let left = subst (λ (l : List OptionSetting). All IsDefault (left_of (places g) l)) (sym (settled g)) (finals_left (places g)) in
      let b = begins (command g) (named g) in
      let t = words_again G with places same own words start g i (settings_of (command g)) [] e agree (none left) in
      record {
        options = words;
        parts = ap (λ (x : List ℕ). x ∷ words) (sym (named g));
        settings = subst (λ (l : List OptionSetting). GiveAll words l) b.1 (subst (λ (ws : List (List ℕ)). GiveAll ws (left_of (places start) (settings_of (command g)))) (append-nil words) t.1);
      }

  -- what begins with the command's word and goes on so
  gave : (rest : List (List ℕ)) (c : Command) → Says (first ∷ rest) c → Agree (places start) (settings_of c) × GiveAll rest (left_of (places start) (settings_of c)) × (word_of c ≡ first)
  gave rest c s =
      let word_is = sym (head_same _ _ _ _ s.parts) in
      let b = begins c word_is in
      let options = subst (λ (ws : List (List ℕ)). GiveAll ws (settings_of c)) (sym (tail_same _ _ _ _ s.parts)) s.settings in
      (b.0, subst (λ (l : List OptionSetting). GiveAll rest l) (sym b.1) options, word_is)

  one_only : (words : List (List ℕ)) (g : G) (i : ℕ) (c : Command) → after_words with start i words ≡ Ok g → Says (first ∷ words) c → c ≡ command g
  one_only words g i c e s =
      let v = gave words c s in
      let t = words_taken G with places same own words start g i (settings_of c) [] e v.0 (subst (λ (ws : List (List ℕ)). GiveAll ws (left_of (places start) (settings_of c))) (sym (append-nil words)) v.1) in
      let is = finals_only (places g) (settings_of c) t.0 (all_given t.1) in
      sym (again c v.2) ∙ ap back (is ∙ sym (settled g)) ∙ again (command g) (named g)

  one_stops : (words : List (List ℕ)) (u : Usage) → IsRefused G with places same own start 1 words u → (i : ℕ) × (u ≡ usages.Word i) × IsUsageWord (first ∷ words) i
  one_stops words u r =
      let front : take (1 + r.count) (first ∷ words) ≡ first ∷ take r.count words = rw one-add refl in
      let longer : take (1 + r.count + 1) (first ∷ words) ≡ first ∷ take (suc r.count) words = rw (one-add, add-one) refl in
      let said = one_says (take r.count words) r.before 1 r.taken in
      let can : CanBeginWords (first ∷ take r.count words) = ([], (command r.before, subst (λ (ws : List (List ℕ)). Says ws (command r.before)) (sym (append-nil (first ∷ take r.count words))) said)) in (
        1 + r.count,
        r.is,
        record {
          before = subst CanBeginWords (sym front) can;
          stops = λ b.
              let k : CanBeginWords (first ∷ take (suc r.count) words) = subst CanBeginWords longer b in
              let v = gave (take (suc r.count) words ++ k.0) k.1.0 k.1.1 in
              r.stops (settings_of k.1.0) k.0 v.0 v.1;
        },
      )

  as_ok : (x : Result G Usage) (c : Command) → as_command command x ≡ Ok c → (g : G) × (x ≡ Ok g) × (command g ≡ c)
  as_ok (Ok g) c e = (g, refl, cc)
  as_ok (Err u) c e = absurd cc

  as_err : (x : Result G Usage) (u : Usage) → as_command command x ≡ Err u → x ≡ Err u
  as_err (Ok g) u e = absurd cc
  as_err (Err v) u e = let is : v ≡ u = cc in ap (λ (w : Usage). Err w) is

  pub IsAnswer-one : (words : List (List ℕ)) → IsAnswer (first ∷ words) (as_command command (after_words with start 1 words))
  IsAnswer-one words = record {
    says = λ c e. let a = as_ok _ c e in subst (λ (d : Command). Says (first ∷ words) d) a.2 (one_says words a.0 1 a.1);
    only = λ c d e s. let a = as_ok _ c e in one_only words a.0 1 d a.1 s ∙ a.2;
    empty = λ e. let r = one_stops words usages.NoCommand (words_refused G with places same own words start 1 usages.NoCommand (as_err _ _ e)) in absurd (let is : usages.NoCommand ≡ usages.Word r.0 = r.1 in cc);
    usage = λ i e. let r = one_stops words (usages.Word i) (words_refused G with places same own words start 1 (usages.Word i) (as_err _ _ e)) in let is : r.0 ≡ i = cc in subst (IsUsageWord (first ∷ words)) is r.2;
  }

-- ---- the commands without options

apart : (x y : List ℕ) → bytes_eq x y ≡ false → x ≢ y
apart x y test e = let same = (bytes_eq-Decides x y).1 e in absurd cc

abbrev no_places : GivenNone → List Place
no_places g = []

plain_begins : (command c : Command) → settings_of command ≡ [] → c ≡ command → Agree [] (settings_of c) × (left_of [] (settings_of c) ≡ settings_of c)
plain_begins command c empty is =
    let Q : Command → Type 0 = λ d. Agree [] (settings_of d) × (left_of [] (settings_of d) ≡ settings_of d) in
    subst Q (sym is) (subst (λ (l : List OptionSetting). Agree [] l) (sym empty) tt, sym empty)

IsAnswer-plain : (command : Command) → settings_of command ≡ [] → ((c : Command) → word_of c ≡ word_of command → c ≡ command) → (words : List (List ℕ)) → IsAnswer (word_of command ∷ words) (plain_command command words)
IsAnswer-plain command empty only words =
    IsAnswer-one GivenNone none_with no_places (λ g name n. refl) (λ g. refl) (record {}) (word_of command) (λ _. command) (λ g. refl) (λ g. empty) (λ c e. plain_begins command c empty (only c e)) (λ _. command) (λ c e. sym (only c e)) words

canon_only : (c : Command) → word_of c ≡ codes "canon" → c ≡ commands.Canon
canon_only commands.Canon e = refl
canon_only c e = absurd (apart (word_of c) (codes "canon") refl e)

dis_only : (c : Command) → word_of c ≡ codes "dis" → c ≡ commands.Dis
dis_only commands.Dis e = refl
dis_only c e = absurd (apart (word_of c) (codes "dis") refl e)

asm_only : (c : Command) → word_of c ≡ codes "asm" → c ≡ commands.Asm
asm_only commands.Asm e = refl
asm_only c e = absurd (apart (word_of c) (codes "asm") refl e)

check_only : (c : Command) → word_of c ≡ codes "check" → c ≡ commands.Check
check_only commands.Check e = refl
check_only c e = absurd (apart (word_of c) (codes "check") refl e)

tidy_only : (c : Command) → word_of c ≡ codes "tidy" → c ≡ commands.Tidy
tidy_only commands.Tidy e = refl
tidy_only c e = absurd (apart (word_of c) (codes "tidy") refl e)

replay_only : (c : Command) → word_of c ≡ codes "replay" → c ≡ commands.Replay
replay_only commands.Replay e = refl
replay_only c e = absurd (apart (word_of c) (codes "replay") refl e)

-- ---- the commands with options

wrapped : (wrap : List Place → List Place) (p : Place) (more : Option (List Place)) → option_map (λ (l : List Place). wrap (p ∷ l)) more ≡ option_map wrap (option_map (λ (l : List Place). p ∷ l) more)
wrapped wrap p None = refl
wrapped wrap p (Some l) = refl

-- one option of a command, after those that stand before it
choice : {G : Type 0} (places : G → List Place) (wrap : List Place → List Place) (p : Place) (b test : Bool) (g : G) (after : List Place) (rest : Option G) (more : Option (List Place)) → places g ≡ wrap after → option_map places rest ≡ option_map (λ (l : List Place). wrap (p ∷ l)) more
    → option_map places (cond b (some_if test g) rest) ≡ option_map wrap (cond b (some_if test after) (option_map (λ (l : List Place). p ∷ l) more))
choice places wrap p true true g after rest more here later = ap (λ (l : List Place). Some l) here
choice places wrap p true false g after rest more here later = refl
choice places wrap p false test g after rest more here later = later ∙ wrapped wrap p more

abbrev run_places : GivenRun → List Place
run_places g = place fuel g.fuel ∷ place objects_option g.objects ∷ place cells g.cells ∷ place text_option g.text ∷ place frames g.frames ∷ place stack g.stack ∷ []

run_same : (g : GivenRun) (name : List ℕ) (n : ℕ) → option_map run_places (run_with g name n) ≡ put (run_places g) name n
run_same g name n =
    let stacks = choice run_places (λ l. place fuel g.fuel ∷ place objects_option g.objects ∷ place cells g.cells ∷ place text_option g.text ∷ place frames g.frames ∷ l) (place stack g.stack) (bytes_eq name stack.name) (can_take stack g.stack n) (record g { stack = Some n }) (place stack (Some n) ∷ []) None None refl refl in
    let framed = choice run_places (λ l. place fuel g.fuel ∷ place objects_option g.objects ∷ place cells g.cells ∷ place text_option g.text ∷ l) (place frames g.frames) (bytes_eq name frames.name) (can_take frames g.frames n) (record g { frames = Some n }) (place frames (Some n) ∷ place stack g.stack ∷ []) _ _ refl stacks in
    let texts = choice run_places (λ l. place fuel g.fuel ∷ place objects_option g.objects ∷ place cells g.cells ∷ l) (place text_option g.text) (bytes_eq name text_option.name) (can_take text_option g.text n) (record g { text = Some n }) (place text_option (Some n) ∷ place frames g.frames ∷ place stack g.stack ∷ []) _ _ refl framed in
    let celled = choice run_places (λ l. place fuel g.fuel ∷ place objects_option g.objects ∷ l) (place cells g.cells) (bytes_eq name cells.name) (can_take cells g.cells n) (record g { cells = Some n }) (place cells (Some n) ∷ place text_option g.text ∷ place frames g.frames ∷ place stack g.stack ∷ []) _ _ refl texts in
    let objected = choice run_places (λ l. place fuel g.fuel ∷ l) (place objects_option g.objects) (bytes_eq name objects_option.name) (can_take objects_option g.objects n) (record g { objects = Some n }) (place objects_option (Some n) ∷ place cells g.cells ∷ place text_option g.text ∷ place frames g.frames ∷ place stack g.stack ∷ []) _ _ refl celled in
    let fueled = choice run_places (λ l. l) (place fuel g.fuel) (bytes_eq name fuel.name) (can_take fuel g.fuel n) (record g { fuel = Some n }) (place fuel (Some n) ∷ place objects_option g.objects ∷ place cells g.cells ∷ place text_option g.text ∷ place frames g.frames ∷ place stack g.stack ∷ []) _ _ refl objected in
    fueled ∙ option_map_id (put (run_places g) name n)

abbrev number_at : List OptionSetting → ℕ → ℕ
number_at [] i = 0
number_at (s ∷ settings) zero = s.number
number_at (s ∷ settings) (suc i) = number_at settings i

abbrev run_options : List OptionSetting → RunOptions
run_options l = record { fuel = number_at l 0; objects = number_at l 1; cells = number_at l 2; text = number_at l 3; frames = number_at l 4; stack = number_at l 5 }

abbrev run_back : List OptionSetting → Command
run_back l = commands.Run (run_options l)

run_begins : (c : Command) → word_of c ≡ codes "run" → Agree (run_places run_start) (settings_of c) × (left_of (run_places run_start) (settings_of c) ≡ settings_of c)
run_begins (commands.Run o) e = ((refl, tt, (refl, tt, (refl, tt, (refl, tt, (refl, tt, (refl, tt, tt)))))), refl)
run_begins c e = absurd (apart (word_of c) (codes "run") refl e)

run_again : (c : Command) → word_of c ≡ codes "run" → run_back (settings_of c) ≡ c
run_again (commands.Run o) e = refl
run_again c e = absurd (apart (word_of c) (codes "run") refl e)

IsAnswer-run : (words : List (List ℕ)) → IsAnswer (codes "run" ∷ words) (as_command (λ g. commands.Run (run_options_of g)) (after_words run_with run_start 1 words))
IsAnswer-run words =
    IsAnswer-one GivenRun run_with run_places run_same (λ g. refl) run_start (codes "run") (λ g. commands.Run (run_options_of g)) (λ g. refl) (λ g. refl) run_begins run_back run_again words

abbrev log_back : List OptionSetting → Command
log_back l = commands.Log (run_options l)

log_begins : (c : Command) → word_of c ≡ codes "log" → Agree (run_places run_start) (settings_of c) × (left_of (run_places run_start) (settings_of c) ≡ settings_of c)
log_begins (commands.Log o) e = ((refl, tt, (refl, tt, (refl, tt, (refl, tt, (refl, tt, (refl, tt, tt)))))), refl)
log_begins c e = absurd (apart (word_of c) (codes "log") refl e)

log_again : (c : Command) → word_of c ≡ codes "log" → log_back (settings_of c) ≡ c
log_again (commands.Log o) e = refl
log_again c e = absurd (apart (word_of c) (codes "log") refl e)

IsAnswer-log : (words : List (List ℕ)) → IsAnswer (codes "log" ∷ words) (as_command (λ g. commands.Log (run_options_of g)) (after_words run_with run_start 1 words))
IsAnswer-log words =
    IsAnswer-one GivenRun run_with run_places run_same (λ g. refl) run_start (codes "log") (λ g. commands.Log (run_options_of g)) (λ g. refl) (λ g. refl) log_begins log_back log_again words

abbrev gen_places : GivenGen → List Place
gen_places g = place seed g.seed ∷ place methods g.methods ∷ []

gen_same : (g : GivenGen) (name : List ℕ) (n : ℕ) → option_map gen_places (gen_with g name n) ≡ put (gen_places g) name n
gen_same g name n =
    let last = choice gen_places (λ l. place seed g.seed ∷ l) (place methods g.methods) (bytes_eq name methods.name) (can_take methods g.methods n) (record g { methods = Some n }) (place methods (Some n) ∷ []) None None refl refl in
    let seeded = choice gen_places (λ l. l) (place seed g.seed) (bytes_eq name seed.name) (can_take seed g.seed n) (record g { seed = Some n }) (place seed (Some n) ∷ place methods g.methods ∷ []) _ _ refl last in
    seeded ∙ option_map_id (put (gen_places g) name n)

abbrev gen_back : List OptionSetting → Command
gen_back l = commands.Gen (record { seed = number_at l 0; methods = number_at l 1 })

gen_begins : (c : Command) → word_of c ≡ codes "gen" → Agree (gen_places gen_start) (settings_of c) × (left_of (gen_places gen_start) (settings_of c) ≡ settings_of c)
gen_begins (commands.Gen o) e = ((refl, tt, (refl, tt, tt)), refl)
gen_begins c e = absurd (apart (word_of c) (codes "gen") refl e)

gen_again : (c : Command) → word_of c ≡ codes "gen" → gen_back (settings_of c) ≡ c
gen_again (commands.Gen o) e = refl
gen_again c e = absurd (apart (word_of c) (codes "gen") refl e)

IsAnswer-gen : (words : List (List ℕ)) → IsAnswer (codes "gen" ∷ words) (as_command (λ g. commands.Gen (gen_options_of g)) (after_words gen_with gen_start 1 words))
IsAnswer-gen words =
    IsAnswer-one GivenGen gen_with gen_places gen_same (λ g. refl) gen_start (codes "gen") (λ g. commands.Gen (gen_options_of g)) (λ g. refl) (λ g. refl) gen_begins gen_back gen_again words

abbrev calls_places : GivenCalls → List Place
calls_places g = place times_option g.times ∷ run_places g.run

-- what the options of the run change
calls_run : (g : GivenCalls) (o : Option GivenRun) → option_map calls_places (option_map (λ run. record g { run = run }) o) ≡ option_map (λ (l : List Place). place times_option g.times ∷ l) (option_map run_places o)
calls_run g None = refl
calls_run g (Some run) = refl

calls_same : (g : GivenCalls) (name : List ℕ) (n : ℕ) → option_map calls_places (calls_with g name n) ≡ put (calls_places g) name n
calls_same g name n =
    let rest = calls_run g (run_with g.run name n) ∙ ap (option_map (λ (l : List Place). place times_option g.times ∷ l)) (run_same g.run name n) in
    let first = choice calls_places (λ l. l) (place times_option g.times) (bytes_eq name times_option.name) (can_take times_option g.times n) (record g { times = Some n }) (place times_option (Some n) ∷ run_places g.run) _ (put (run_places g.run) name n) refl rest in
    first ∙ option_map_id (put (calls_places g) name n)

abbrev calls_back : List OptionSetting → Command
calls_back l = commands.Calls (record {
  run = record { fuel = number_at l 1; objects = number_at l 2; cells = number_at l 3; text = number_at l 4; frames = number_at l 5; stack = number_at l 6 };
  times = number_at l 0;
})

calls_begins : (c : Command) → word_of c ≡ codes "calls" → Agree (calls_places calls_start) (settings_of c) × (left_of (calls_places calls_start) (settings_of c) ≡ settings_of c)
calls_begins (commands.Calls o) e = ((refl, tt, (refl, tt, (refl, tt, (refl, tt, (refl, tt, (refl, tt, (refl, tt, tt))))))), refl)
calls_begins c e = absurd (apart (word_of c) (codes "calls") refl e)

calls_again : (c : Command) → word_of c ≡ codes "calls" → calls_back (settings_of c) ≡ c
calls_again (commands.Calls o) e = refl
calls_again c e = absurd (apart (word_of c) (codes "calls") refl e)

IsAnswer-calls : (words : List (List ℕ)) → IsAnswer (codes "calls" ∷ words) (as_command (λ g. commands.Calls (calls_options_of g)) (after_words calls_with calls_start 1 words))
IsAnswer-calls words =
    IsAnswer-one GivenCalls calls_with calls_places calls_same (λ g. refl) calls_start (codes "calls") (λ g. commands.Calls (calls_options_of g)) (λ g. refl) (λ g. refl) calls_begins calls_back calls_again words

-- ---- all commands

IsAnswer-if : (w literal : List ℕ) (words : List (List ℕ)) (b : Bool) (x y : Result Command Usage) → bytes_eq w literal ≡ b → IsAnswer (literal ∷ words) x → (w ≢ literal → IsAnswer (w ∷ words) y) → IsAnswer (w ∷ words) (cond b x y)
IsAnswer-if w literal words true x y is here later =
    let same : w ≡ literal = (bytes_eq-Decides w literal).0 is in
    subst (λ (v : List ℕ). IsAnswer (v ∷ words) x) (sym same) here
IsAnswer-if w literal words false x y is here later = later (λ e. let same = (bytes_eq-Decides w literal).1 e in absurd cc)

begin_with_nothing : CanBeginWords []
begin_with_nothing = (codes "canon" ∷ [], (commands.Canon, record { options = []; parts = refl; settings = none (λ k d lt. absurd (omega arith)) }))

no_word_of : (w : List ℕ) → w ≢ codes "canon" → w ≢ codes "dis" → w ≢ codes "asm" → w ≢ codes "check" → w ≢ codes "tidy" → w ≢ codes "replay" → w ≢ codes "run" → w ≢ codes "log" → w ≢ codes "gen" → w ≢ codes "calls" → (c : Command) → w ≢ word_of c
no_word_of w canon dis asm check tidy replay run log gen calls commands.Canon e = canon e
no_word_of w canon dis asm check tidy replay run log gen calls commands.Dis e = dis e
no_word_of w canon dis asm check tidy replay run log gen calls commands.Asm e = asm e
no_word_of w canon dis asm check tidy replay run log gen calls commands.Check e = check e
no_word_of w canon dis asm check tidy replay run log gen calls commands.Tidy e = tidy e
no_word_of w canon dis asm check tidy replay run log gen calls (commands.Run o) e = run e
no_word_of w canon dis asm check tidy replay run log gen calls (commands.Gen o) e = gen e
no_word_of w canon dis asm check tidy replay run log gen calls (commands.Calls o) e = calls e
no_word_of w canon dis asm check tidy replay run log gen calls (commands.Log o) e = log e
no_word_of w canon dis asm check tidy replay run log gen calls commands.Replay e = replay e

IsAnswer-other : (w : List ℕ) (words : List (List ℕ)) → ((c : Command) → w ≢ word_of c) → IsAnswer (w ∷ words) (Err (usages.Word 0))
IsAnswer-other w words other = record {
  says = λ c e. absurd cc;
  only = λ c d e s. absurd cc;
  empty = λ e. absurd cc;
  usage = λ i e. let is : 0 ≡ i = cc in subst (IsUsageWord (w ∷ words)) is (record {
    before = begin_with_nothing;
    stops = λ b. other b.1.0 (head_same _ _ _ _ b.1.1.parts);
  });
}

pub IsAnswer-command : (words : List (List ℕ)) → IsAnswer words (command_of words)
IsAnswer-command [] = record {
  says = λ c e. absurd cc;
  only = λ c d e s. absurd cc;
  empty = λ e. refl;
  usage = λ i e. absurd cc;
}
IsAnswer-command (w ∷ words) =
    IsAnswer-if w (codes "canon") words (bytes_eq w (codes "canon")) _ _ refl (IsAnswer-plain commands.Canon refl canon_only words) (λ canon.
    IsAnswer-if w (codes "dis") words (bytes_eq w (codes "dis")) _ _ refl (IsAnswer-plain commands.Dis refl dis_only words) (λ dis.
    IsAnswer-if w (codes "asm") words (bytes_eq w (codes "asm")) _ _ refl (IsAnswer-plain commands.Asm refl asm_only words) (λ asm.
    IsAnswer-if w (codes "check") words (bytes_eq w (codes "check")) _ _ refl (IsAnswer-plain commands.Check refl check_only words) (λ check.
    IsAnswer-if w (codes "tidy") words (bytes_eq w (codes "tidy")) _ _ refl (IsAnswer-plain commands.Tidy refl tidy_only words) (λ tidy.
    IsAnswer-if w (codes "replay") words (bytes_eq w (codes "replay")) _ _ refl (IsAnswer-plain commands.Replay refl replay_only words) (λ replay.
    IsAnswer-if w (codes "run") words (bytes_eq w (codes "run")) _ _ refl (IsAnswer-run words) (λ run.
    IsAnswer-if w (codes "log") words (bytes_eq w (codes "log")) _ _ refl (IsAnswer-log words) (λ log.
    IsAnswer-if w (codes "gen") words (bytes_eq w (codes "gen")) _ _ refl (IsAnswer-gen words) (λ gen.
    IsAnswer-if w (codes "calls") words (bytes_eq w (codes "calls")) _ _ refl (IsAnswer-calls words) (λ calls.
    IsAnswer-other w words (no_word_of w canon dis asm check tidy replay run log gen calls)))))))))))

-- ---- never two answers

pub not_both : (words : List (List ℕ)) (i : ℕ) → IsUsageWord words i → ¬ IsWellFormed words
not_both words i u s = u.stops (drop (i + 1) words, subst IsWellFormed (sym (take-append-drop (i + 1) words)) s)

begin_less : (words : List (List ℕ)) (i j : ℕ) → i ≤ j → CanBeginWords (take j words) → CanBeginWords (take i words)
begin_less words i j le b =
    let front : take i (take j words) ≡ take i words = take-take i j words le in
    let whole : take i words ++ (drop i (take j words) ++ b.0) ≡ take j words ++ b.0
    = sym (append_assoc (take i words) (drop i (take j words)) b.0) ∙ ap (λ (l : List (List ℕ)). l ++ drop i (take j words) ++ b.0) (sym front) ∙ ap (λ (l : List (List ℕ)). l ++ b.0) (take-append-drop i (take j words)) in
    (drop i (take j words) ++ b.0, subst IsWellFormed (sym whole) b.1)

not_later : (words : List (List ℕ)) (i j : ℕ) → IsUsageWord words i → IsUsageWord words j → ¬ (i < j)
not_later words i j u v lt = u.stops (begin_less words (i + 1) j (omega arith) v.before)

pub one_usage_word : (words : List (List ℕ)) (i j : ℕ) → IsUsageWord words i → IsUsageWord words j → i ≡ j
one_usage_word words i j u v =
    let low = not_later words i j u v in
    let high = not_later words j i v u in
    omega (arith, low, high)

pub none_says_nothing : (words : List (List ℕ)) → words ≡ [] → ¬ IsWellFormed words
none_says_nothing words e s = let parts = s.1.parts in absurd cc

pub none_has_no_usage_word : (words : List (List ℕ)) (i : ℕ) → IsUsageWord words i → words ≢ []
none_has_no_usage_word words i u e =
    let short : take (i + 1) words ≡ [] = ap (take (i + 1)) e ∙ take_all (i + 1) [] (omega arith) in
    u.stops (subst CanBeginWords (sym short) begin_with_nothing)

-- ---- the answer and what holds of the words

pub says_back : (words : List (List ℕ)) (r : Result Command Usage) → IsAnswer words r → (c : Command) → Says words c → r ≡ Ok c
says_back words (Ok d) a c s = ap (λ (x : Command). Ok x) (sym (a.only d c refl s))
says_back words (Err usages.NoCommand) a c s = absurd (none_says_nothing words (a.empty refl) (c, s))
says_back words (Err (usages.Word i)) a c s = absurd (not_both words i (a.usage i refl) (c, s))

pub empty_back : (words : List (List ℕ)) (r : Result Command Usage) → IsAnswer words r → words ≡ [] → r ≡ Err usages.NoCommand
empty_back words (Ok c) a e = absurd (none_says_nothing words e (c, a.says c refl))
empty_back words (Err usages.NoCommand) a e = refl
empty_back words (Err (usages.Word i)) a e = absurd (none_has_no_usage_word words i (a.usage i refl) e)

pub usage_back : (words : List (List ℕ)) (r : Result Command Usage) → IsAnswer words r → (i : ℕ) → IsUsageWord words i → r ≡ Err (usages.Word i)
usage_back words (Ok c) a i u = absurd (not_both words i u (c, a.says c refl))
usage_back words (Err usages.NoCommand) a i u = absurd (none_has_no_usage_word words i u (a.empty refl))
usage_back words (Err (usages.Word j)) a i u = ap (λ (k : ℕ). Err (usages.Word k)) (one_usage_word words j i (a.usage j refl) u)

some_answer : (words : List (List ℕ)) (r : Result Command Usage) → IsAnswer words r → IsWellFormed words ⊎ ((words ≡ []) ⊎ ((i : ℕ) × IsUsageWord words i))
some_answer words (Ok c) a = inl (c, a.says c refl)
some_answer words (Err usages.NoCommand) a = inr (inl (a.empty refl))
some_answer words (Err (usages.Word i)) a = inr (inr (i, a.usage i refl))

pub one_of_three : (words : List (List ℕ)) → IsWellFormed words ⊎ ((words ≡ []) ⊎ ((i : ℕ) × IsUsageWord words i))
one_of_three words = some_answer words (command_of words) (IsAnswer-command words)

pub one_command : (words : List (List ℕ)) (c d : Command) → Says words c → Says words d → c ≡ d
one_command words c d s t =
    let a = IsAnswer-command words in
    a.only d c (says_back words (command_of words) a d t) s
