-- States are ordered.
use Rattle.std.proofs.Common.{refl, ◌∙◌}
use Rattle.abc_verify_typing.proofs.Lists.{Each2-self, Each2-trans}
use Rattle.abc_link_names.specs.Kinds.{IsAtMost}
use Rattle.abc_link_names.proofs.Order.{kind_self, kind_trans}
use Rattle.abc_link_names.specs.Linked.{LinkedFile}
use Rattle.abc_verify_typing.specs.declared.state.Scope.{Scope}
use Rattle.abc_verify_typing.specs.declared.state.State.{State}
use Rattle.abc_verify_typing.specs.Typing.{ScopeLe, StateLe}

scope_self : (p : LinkedFile) (a : Scope) → ScopeLe p a a
scope_self p a = record { kind = kind_self p a.kind; flag = refl }

scope_trans : (p : LinkedFile) (a b c : Scope) → ScopeLe p a b → ScopeLe p b c → ScopeLe p a c
scope_trans p a b c x y = record { kind = kind_trans p a.kind b.kind c.kind x.kind y.kind; flag = x.flag ∙ y.flag }

pub state_self : (p : LinkedFile) (s : State) → StateLe p s s
state_self p s = record { stack = Each2-self (IsAtMost p) (kind_self p) s.stack; scopes = Each2-self (ScopeLe p) (scope_self p) s.scopes; locals = Each2-self (IsAtMost p) (kind_self p) s.locals }

pub state_trans : (p : LinkedFile) (s t u : State) → StateLe p s t → StateLe p t u → StateLe p s u
state_trans p s t u x y = record { stack = Each2-trans (IsAtMost p) (kind_trans p) _ _ _ x.stack y.stack; scopes = Each2-trans (ScopeLe p) (scope_trans p) _ _ _ x.scopes y.scopes; locals = Each2-trans (IsAtMost p) (kind_trans p) _ _ _ x.locals y.locals }
