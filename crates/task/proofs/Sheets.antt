-- From runs through what is lent to a step, to the host, the terminal and the sheet themselves.
use Rattle.std.proofs.Common.{◌≡◌, ℕ, suc, ◌+◌, ◌<◌, ◌≤◌, List, [], ◌∷◌, ◌++◌, length, take, drop, slice_set, refl, sym, ap, ◌∙◌, append_assoc, arith, length-take, length-set, zero-add}
use Rattle.std.proofs.lemmas.Grind.{common_steps}
use Rattle.std.proofs.lemmas.List.{append-nil, drop-append-le, length-map, take-append-drop}
use Rattle.host.specs.declared.journal.Record.{Record}
use Rattle.host.specs.declared.process.Host as Host
use Rattle.host.specs.declared.terminal.Terminal as Terminal
use Rattle.host.specs.Calls.{Event}
use Rattle.host.specs.Interaction.{Interaction, done, ask, bind, Traces, World, IsAnswered}
use Rattle.host.specs.Journal.{record_of, event_record, journal}
use Rattle.task.specs.declared.step.Step.{Step}
use Rattle.task.specs.Conducts.{Conducts}
use Rattle.task.specs.Performs.{StepWorld, Performs, IsRecorded, step_world, world_in}
use Rattle.task.proofs.Running.{traces-bind}

-- a write in the place i and then ys behind it, on a sheet from that place on
written_next : {A : Type 0} (xs ys : List A) (i n : ℕ) (x : A) → i < length xs → take (i + 1) (slice_set xs i x) ++ ys ++ drop (i + 1 + n) (slice_set xs i x)
    ≡ take i xs ++ (x ∷ ys) ++ drop (i + suc n) xs
written_next xs ys i n x h = grind (arith, common_steps)

-- what stands behind n places of the first k, and behind these
front : {A : Type 0} (xs js : List A) (n k : ℕ) → k ≤ length xs → n ≤ k → (js ++ drop n (take k xs)) ++ drop k xs ≡ js ++ drop n xs
front xs js n k full l =
    let behind : drop n (take k xs ++ drop k xs) ≡ drop n (take k xs) ++ drop k xs = drop-append-le n (take k xs) (drop k xs) (simp length-take (omega arith))
    in
    append_assoc js (drop n (take k xs)) (drop k xs) ∙ ap (λ ys. js ++ ys) (sym behind ∙ ap (drop n) (take-append-drop k xs))

pub journal-length : (p : List Event) → length (journal p) ≡ length p
journal-length p = length-map p event_record

module _ {H T : Type 0} (by_host : Host.Ghosts H) (by_terminal : Terminal.Ghosts T) where
  -- a run without its sheet, how much it wrote, and what
  apart : {A : Type 0} (t : Interaction A) (s s' : StepWorld H T) (p : List Event) (x : A) → s'.used ≤ length s.sheet
      → Traces (IsRecorded by_host by_terminal) t s p x s' → Traces (IsAnswered by_host by_terminal) t (world_in s) p x (world_in s')
      × (s'.used ≡ s.used + length p) × (s'.sheet ≡ take s.used s.sheet ++ journal p ++ drop (s.used + length p) s.sheet)
  apart (done y) s s' p x l h = rw (h.0, h.2) ((refl, h.1, refl), omega arith, grind (arith, common_steps))
  apart (ask c k) s s' p x l h =
      let m = h.1 in
      let places : length m.sheet ≡ length s.sheet = ap length h.4.1 ∙ length-set s.sheet s.used _ in
      let rest = apart (k h.0) m s' h.2 x (omega arith) h.5 in
      let count : s'.used ≡ s.used + suc (length h.2) = omega (arith, rest.1, h.4.2) in
      rw h.3 (
        (h.0, world_in m, h.2, refl, h.4.0, rest.0),
        count,
        rest.2 ∙ rw (h.4.1, h.4.2) (written_next s.sheet (journal h.2) s.used (length h.2) (record_of c h.0) (omega (arith, count))),
      )

module _ {H T : Type 0} {by_host : Host.Ghosts H} {by_terminal : Terminal.Ghosts T} where
  -- a run through what is lent from an empty sheet on, at what the lenders hold after it
  pub conducted : {A : Type 0} {t : Interaction A} {n : ℕ} {o o' : Step H T} {x y : A} {h : H} {m : T} {xs : List Record} → o.used ≡ 0 → n ≤ length o.sheet.now
      → y ≡ x → h ≡ o'.host.now → m ≡ o'.terminal.now → xs ≡ o'.sheet.now → Performs by_host by_terminal n t o x o'
      → Conducts by_host by_terminal t (world_in (step_world o)) o.sheet.now y o'.used (record { host = h; terminal = m }) xs
  conducted {t = t} {o = o} {o' = o'} {x = x} z few ey eh em ex r =
      let run = apart by_host by_terminal t (step_world o) (step_world o') r.trace x (omega (arith, r.used)) r.traces in
      rw (ey, eh, em, ex) (record {
        trace = r.trace;
        traces = run.0;
        count = omega (arith, run.1);
        room = omega (arith, run.1, r.used, few, z);
        sheet = simp
            (z, zero-add) at run.2;
      })

  -- a run on the first eight places of a sheet is one on the sheet
  pub on_front : {A : Type 0} {t : Interaction A} {w w' : World H T} {xs ys : List Record} {x : A} {n : ℕ} → 8 ≤ length xs → Conducts by_host by_terminal t w
      (take 8 xs) x n w' ys → Conducts by_host by_terminal t w xs x n w' (ys ++ drop 8 xs)
  on_front {xs = xs} full r =
      let within : length r.trace ≤ 8 = omega (arith, r.room, length-take 8 xs) in
      record {
        trace = r.trace;
        traces = r.traces;
        count = r.count;
        room = omega (arith, within, full);
        sheet = rw r.sheet
            (front xs (journal r.trace) (length r.trace) 8 full within);
      }

  -- what follows a run without a call
  pub then_done : {A B : Type 0} (t : Interaction A) (f : A → B) {w w' : World H T} {xs ys : List Record} {n : ℕ} {x : A} {y : B} → y ≡ f x
      → Conducts by_host by_terminal t w xs x n w' ys → Conducts by_host by_terminal (bind t (λ z. done (f z))) w xs y n w' ys
  then_done t f {w} {w'} {x = x} {y = y} e r =
      let whole = traces-bind (IsAnswered by_host by_terminal) t (λ z. done (f z)) w w' w' r.trace [] x y r.traces (refl, e, refl) in
      record { trace = r.trace; traces = rw append-nil at whole; count = r.count; room = r.room; sheet = r.sheet }

  -- nothing was asked
  pub silent : {A : Type 0} {w : World H T} {xs : List Record} {x y : A} → x ≡ y → Conducts by_host by_terminal (done y) w xs x 0 w xs
  silent e = record { trace = []; traces = (refl, e, refl); count = refl; room = omega arith; sheet = refl }

  -- the same run, with the tree at an equal value
  pub at_value : {A V : Type 0} (f : V → Interaction A) {v u : V} {w w' : World H T} {xs ys : List Record} {n : ℕ} {x : A} → v ≡ u
      → Conducts by_host by_terminal (f v) w xs x n w' ys → Conducts by_host by_terminal (f u) w xs x n w' ys
  at_value f e r = rw (← e) r

  -- the records that were written are those of the trace
  pub records_are : {A : Type 0} {t : Interaction A} {w w' : World H T} {xs ys : List Record} {x : A} {n : ℕ}
      (r : Conducts by_host by_terminal t w xs x n w' ys) → take n ys ≡ journal r.trace
  records_are r = grind (arith, common_steps, r.count, r.sheet, journal-length r.trace)
