-- Interaction trees: what is asked, and how it goes on by the answers.
use Rattle.std.specs.Prelude.{◌≡◌, List, [], ◌∷◌}
use Rattle.host.specs.declared.process.Host as Host
use Rattle.host.specs.declared.terminal.Terminal as Terminal
use Rattle.host.specs.Calls.{Call, to_host, to_terminal, Reply, Event}

-- An interaction tree ends with a value, or makes a call and goes on by its answer.
pub data Interaction (A : Type 0) : Type 0 where
  done : A → Interaction A
  ask : (c : Call) → (Reply c → Interaction A) → Interaction A

-- one tree, and the one that follows from its value
abbrev pub bind : {A B : Type 0} → Interaction A → (A → Interaction B) → Interaction B
bind (done x) f = f x
bind (ask c k) f = ask c (λ a. bind (k a) f)

-- one call
abbrev pub call : (c : Call) → Interaction (Reply c)
call c = ask c (λ a. done a)

-- The tree t, run from the state s on by the relation did, makes the calls of the trace p with their answers, ends with the
-- value x and leaves the state s'.
abbrev pub Traces : {S A : Type 0} (did : S → (c : Call) → Reply c → S → Type 0) → Interaction A → S → List Event → A → S → Type 0
Traces did (done y) s p x s' = (p ≡ []) × (x ≡ y) × (s' ≡ s)
Traces {S} did (ask c k) s p x s' = (a : Reply c) × (m : S) × (q : List Event) × (p ≡ (c, a) ∷ q) × did s c a m × Traces did (k a) m q x s'

-- a host and a terminal
pub record World (H T : Type 0) : Type 0 where
  pub host : H
  pub terminal : T

abbrev pub world : {H T : Type 0} → H → T → World H T
world host terminal = record { host = host; terminal = terminal }

-- a call is answered as the host or the terminal answers it, and leaves the other as it is
abbrev pub IsAnswered : {H T : Type 0} (by_host : Host.Ghosts H) (by_terminal : Terminal.Ghosts T) → World H T → (c : Call) → Reply c → World H T → Type 0
IsAnswered by_host by_terminal w (to_host c) a v = by_host.did w.host c a v.host × (v.terminal ≡ w.terminal)
IsAnswered by_host by_terminal w (to_terminal c) a v = by_terminal.did w.terminal c a v.terminal × (v.host ≡ w.host)
