-- The kinds of values and of key parts.
use Rattle.aria_base.specs.declared.values.Kind.{Kind}
use Rattle.aria_base.specs.declared.values.Kind.TheVariants as kind
use Rattle.aria_base.specs.declared.values.Value.{Value}
use Rattle.aria_base.specs.declared.values.Value.TheVariants as value
use Rattle.aria_base.specs.declared.keys.Part.{Part}
use Rattle.aria_base.specs.declared.keys.Part.TheVariants as part

abbrev pub value_kind : Value → Kind
value_kind (value.Int number) = kind.Int
value_kind (value.Text text) = kind.Text

abbrev pub part_kind : Part → Kind
part_kind (part.Int number) = kind.Int
part_kind (part.Text text) = kind.Text
