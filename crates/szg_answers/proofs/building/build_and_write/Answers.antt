use Rattle.std.proofs.Common.{◌≡◌, inr, inl, refl, rules, subst}
use Rattle.szg_build.specs.declared.BuildFault.TheVariants as faults
use Rattle.szg_answers.specs.Builds.{IsRefusedText}
use Rattle.szg_answers.specs.declared.refusal.Refusal.{Refusal}
use Rattle.szg_answers.specs.declared.refusal.Refusal.TheVariants as why
use Rattle.szg_answers.proofs.Builds.{built_of, due_of, refused_of}
use Rattle.szg_answers.proofs.building.build_and_write.Goals as goal

pub returns-in-Ok-write-clause-stated : goal.returns-in-Ok-write-clause-stated
returns-in-Ok-write-clause-stated g c =
    let packed = c.in-Ok.packed in
    let took = c.in-Ok.ensures.taken in
    let table = c.in-Ok-build.table in
    record {
      dump = packed.dump;
      text = record { bytes = took.0; taken = took.1; lines = took.2.0; tells = took.2.1 };
      table = table;
      built = built_of c.args.packing packed.choice packed.dump table.contents c.in-Ok.ensures.choice c.in-Ok-build.ensures.no_fault c.in-Ok-build.ensures.built;
      accepted = c.in-Ok-build.ensures.accepted;
      given = c.in-Ok-write.ensures.ok;
    }

-- a line of the text is refused
pub returns-in-Err-Line-clause-refused : goal.returns-in-Err-Line-clause-refused
returns-in-Err-Line-clause-refused g c = λ refusal is.
    let took = c.in-Err-Line.ensures.taken in
    let same : why.Line c.in-Err-Line.line c.in-Err-Line.fault ≡ refusal = cc in (
      refl,
      inl (subst (λ (r : Refusal). IsRefusedText g.R.Input c.args.reader.now c.read_packed.new.input r) same (record { bytes = took.0; taken = took.1; refused = rw (c.in-Err-Line.field-0-is) at took.2 })),
    )

-- the text describes what no table can have
pub returns-in-Err-Build-clause-refused : goal.returns-in-Err-Build-clause-refused
returns-in-Err-Build-clause-refused g c = λ refusal is.
    let took = c.in-Err-Build.ensures.taken in
    let same : why.Build c.in-Err-Build.fault ≡ refusal = cc in (
      refl,
      inl (subst (λ (r : Refusal). IsRefusedText g.R.Input c.args.reader.now c.read_packed.new.input r) same (record { bytes = took.0; taken = took.1; refused = rw (c.in-Err-Build.field-0-is) at took.2 })),
    )

-- the dump is one, and no table can be built of it
pub returns-in-Err-clause-refused : goal.returns-in-Err-clause-refused
returns-in-Err-clause-refused g c = λ refusal is.
    let packed = c.in-Ok.packed in
    let took = c.in-Ok.ensures.taken in
    let same : refusal ≡ why.Build c.in-Err.fault = cc in
    let other : c.in-Err.fault ≡ faults.Memory → ⊥ = search rules in (
      refl,
      inr (record {
        dump = packed.dump;
        text = record { bytes = took.0; taken = took.1; lines = took.2.0; tells = took.2.1 };
        refused = refused_of c.args.packing packed.choice packed.dump refusal c.in-Ok.ensures.choice (c.in-Err.fault, same, due_of _ c.in-Err.fault other (c.in-Err.ensures.refused c.in-Err.fault refl));
      }),
    )
