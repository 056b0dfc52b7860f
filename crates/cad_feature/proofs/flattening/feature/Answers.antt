use Rattle.std.proofs.Common.{◌∙◌, List, subst, sym}
use Rattle.std.specs.Option.{option_copied}
use Rattle.cad_feature.specs.Features.{Item, IsFeatureOf, IsNumbered}
use Rattle.cad_feature.specs.declared.period.Period.{Period}
use Rattle.cad_versions.specs.VersionedObject.{VersionedObject}
use Rattle.cad_feature.specs.Values.{Datum, datum_of}
use Rattle.cad_feature.specs.inner.WithNames.{value_with}
use Rattle.cad_feature.proofs.FeatureLemmas.{says, fit_more, all_fit, all_said}
use Rattle.cad_feature.proofs.ListLemmas.{map_more}
use Rattle.cad_feature.proofs.flattening.feature.Goals as goal

pub loop-property-preserved : goal.loop-property-preserved
loop-property-preserved c =
    let properties = c.schema-properties.result.now in
    let i = c.loop-property.property-index in
    let value = value_with c.args.version.now c.args.last (option_copied c.args.unit_name) (option_copied c.args.party_name) in
    record {
      said = map_more (says value) datum_of properties i _ c.loop-property.values.items c.push.new.self.items c.in_ok-value.value c.loop-property-test.true c.loop-property.invariant.said c.in_ok-push.ensures.items c.in_ok-value.ensures.0;
      fit = fit_more value properties i _ c.loop-property-test.true c.loop-property.invariant.fit c.in_ok-value.ensures.1;
    }

pub returns-clause-feature : goal.returns-clause-feature
returns-clause-feature c =
    let value = value_with c.args.version.now c.args.last (option_copied c.args.unit_name) (option_copied c.args.party_name) in
    let as_item : VersionedObject → List Datum → Period → Item = λ v ds period. record { object = v.object; number = v.number; values = ds; period = period } in
    let said = all_said c.args.collection value c.schema-properties.result.now c.loop-property.property-index _ c.schema-properties.ensures.attributes c.loop-property-test.false c.loop-property.invariant.said in
    c.new.ensures ∙ (λ i. as_item (c.version.view_is i) (said i) (c.always.ensures i))

pub returns-clause-numbered : goal.returns-clause-numbered
returns-clause-numbered c = subst IsNumbered (sym c.new.ensures) (c.version.invariant.positive, c.version.invariant.small)

pub returns-clause-fits : goal.returns-clause-fits
returns-clause-fits c =
    subst (IsFeatureOf c.args.collection) (sym c.new.ensures) (record {
      fits = all_fit c.args.collection (value_with c.args.version.now c.args.last (option_copied c.args.unit_name) (option_copied c.args.party_name)) c.schema-properties.result.now c.loop-property.property-index _ c.schema-properties.ensures.attributes c.loop-property-test.false c.loop-property.invariant.fit c.loop-property.invariant.said;
    })
