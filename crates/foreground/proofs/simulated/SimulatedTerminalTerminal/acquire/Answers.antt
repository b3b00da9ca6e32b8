use Rattle.std.proofs.Common.{◌≡◌, ℕ, true, false, List, [], ◌∷◌, Some, None, Option, Err, ap, ◌∙◌, refl, arith}
use Rattle.std.proofs.lemmas.Bool.Decides.{nat_tests}
use Rattle.std.proofs.lemmas.Grind.{common_steps}
use Rattle.host.specs.Fault.{fault}
use Rattle.foreground.specs.declared.session.Member.{Member}
use Rattle.foreground.specs.Group.{IsGroup}
use Rattle.foreground.specs.Session.{is_in_session}
use Rattle.foreground.specs.Posix.{Tty}
use Rattle.foreground.specs.Moves.{give}
use Rattle.foreground.specs.View.{tty}
use Rattle.foreground.proofs.simulated.SimulatedTerminalTerminal.acquire.Goals as goal

-- only a group's number stands in a session
is_in_session-no_group : (n : ℕ) (places : List (Option Member)) → ¬ IsGroup n → is_in_session n places ≡ false
is_in_session-no_group n [] h = refl
is_in_session-no_group n (None ∷ places) h = is_in_session-no_group n places h
is_in_session-no_group n (Some m ∷ places) h = grind (arith, nat_tests, m.group.low, m.group.high, is_in_session-no_group n places h)

-- an empty group doesn't keep the foreground
gives_back : (group : ℕ) (t : Tty) → (give group t).0 ≡ Err (fault 3) → is_in_session t.own t.groups ≡ true → (give group t).1.foreground ≡ Some t.own
gives_back group t fails stands = grind (arith, nat_tests)

pub returns-in_default : goal.returns-in_default
returns-in_default c = grind (arith, common_steps, nat_tests, is_in_session-no_group c.args.group c.args.self.now.console.device.session.places)

pub returns-in_err-give-clause-empty : goal.returns-in_err-give-clause-empty
returns-in_err-give-clause-empty c = λ fails stands.
    ap (λ d. d.1.foreground) c.give.ensures ∙ gives_back c.in-Ok.group.number (tty c.args.self.now.console) (grind (arith, common_steps)) stands
