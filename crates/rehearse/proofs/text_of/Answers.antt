-- A byte more than a script may have is enough.
use Rattle.std.proofs.Common.{◌≡◌, ℕ, ◌<◌, ◌≤◌, ◌⊎◌, List, length, take, Some, None, Err, Option, inl, inr, ap, ◌∙◌, sym, IfSome, arith, string_bytes}
use Rattle.std.specs.Option.{option_map}
use Rattle.std.proofs.lemmas.Bool.{cases_lt}
use Rattle.std.proofs.lemmas.Bool.Decides.{nat_tests}
use Rattle.std.proofs.lemmas.List.{length-take, take_all}
use Rattle.rehearsal.specs.declared.script.ScriptFault.TheVariants.{TooLong}
use Rattle.rehearsal.specs.Printed.{rehearsal_text, text_of}
use Rattle.rehearsal.specs.Script.{script_of}
use Rattle.rehearse.proofs.text_of.Goals as goal

-- a longer one says nothing else
too_long : (script : List ℕ) → 32768 < length script → script_of script ≡ Err TooLong
too_long script h = grind (arith, nat_tests)

-- so many bytes say what the script says
enough_said : (script : List ℕ) → (32769 < length script) ⊎ (length script ≤ 32769) → script_of (take 32769 script) ≡ script_of script
enough_said script (inr short) = ap script_of (take_all 32769 script short)
enough_said script (inl long) = too_long (take 32769 script) (omega (arith, length-take 32769 script)) ∙ sym (too_long script (omega arith))

-- where the bytes of a reader are known, and so many were read
printed_so : (known : Option (List ℕ)) (bytes text : List ℕ) → IfSome (option_map (take 32769) known) (λ xs. bytes ≡ xs) →
    text ≡ rehearsal_text bytes → IfSome known (λ script. text ≡ rehearsal_text script)
printed_so None bytes text read e = tt
printed_so (Some bs) bytes text read e = e ∙ ap rehearsal_text read ∙ ap text_of (enough_said bs (cases_lt 32769 (length bs)))

pub returns : goal.returns
returns g c = printed_so (g.R.Read.remaining c.args.script) c.read_to_end.new.buf.items (string_bytes c.in_ok-rehearse.field-0)
    (rw (c.take.ensures.limit, c.take.ensures.inner, c.new-bytes.ensures.items) at c.in_ok-read_to_end.ensures.bytes)
    (rw c.deref.ensures.value at c.in_ok-rehearse.ensures)
