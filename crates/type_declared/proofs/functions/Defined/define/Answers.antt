use Rattle.std.proofs.Common.{◌≡◌, ◌+◌, ◌∙◌, ap, sym, rules, true, false}
use Rattle.std.specs.Prelude.{is_some}
use Rattle.std.specs.Map.{lookup}
use Rattle.std.specs.Str.{bytes_eq}
use Rattle.type_declared.proofs.Defining.{defined_new, defined_again, entry_new, some_copied}
use Rattle.type_declared.proofs.functions.Defined.define.Goals.{then-is_none+in_ok-insert, else-is_none}
use Rattle.type_declared.proofs.functions.Defined.define.Goals as goal

pub returns-clause-after : goal.returns-clause-after
returns-clause-after c = λ names is.
    let d = c.args.self.now in
    let key = c.args.bytes in
    let more : c.in_ok-self.field-0 ≡ c.if-is_none.self.count + 1 = search rules in
    elim c.if-is_none.branch [
      | then-is_none+in_ok-insert w ↦
          let gone : is_some (lookup (λ k. bytes_eq key.now k.now) d.places.entries) ≡ false = ap is_some (sym c.get.ensures.value) ∙ sym (some_copied c.get.result) ∙ w.if-is_none.ensures in
          defined_new names d _ key is (ap (λ s. s.places.entries) w.self-is ∙ w.in_ok-insert.ensures.entries ∙ entry_new key d.count d.places.entries gone) (more ∙ ap (λ s. s.count + 1) w.self-is)
      | else-is_none w ↦
          let there : is_some (lookup (λ k. bytes_eq key.now k.now) d.places.entries) ≡ true = ap is_some (sym c.get.ensures.value) ∙ sym (some_copied c.get.result) ∙ w.if-is_none.ensures in
          defined_again names d _ key is there (ap (λ s. s.places.entries) w.self-is) (more ∙ ap (λ s. s.count + 1) w.self-is)
    ]
