-- The names of fields in the code are those of the definitions.
use Rattle.std.proofs.Common.{◌≡◌, map, refl}
use Rattle.metric_views.specs.declared.by_kind.TheConstants.{KIND_FIELDS}
use Rattle.metric_views.specs.declared.readers.TheConstants.{READER_FIELDS}
use Rattle.metric_views.specs.declared.reading.TheConstants.{TOP_FIELDS}
use Rattle.metric_views.specs.declared.views.TheConstants.{VIEW_FIELDS}
use Rattle.metric_views.specs.Configs.{top_fields}
use Rattle.metric_views.specs.Readers.{kind_names, reader_fields}
use Rattle.metric_views.specs.Views.{view_fields}

pub kind_names-are : map (λ name. name.now) KIND_FIELDS ≡ kind_names
unfolding kind_names
kind_names-are = refl

pub reader_fields-are : map (λ name. name.now) READER_FIELDS ≡ reader_fields
unfolding reader_fields
reader_fields-are = refl

pub top_fields-are : map (λ name. name.now) TOP_FIELDS ≡ top_fields
unfolding top_fields
top_fields-are = refl

pub view_fields-are : map (λ name. name.now) VIEW_FIELDS ≡ view_fields
unfolding view_fields
view_fields-are = refl

pub ruleset field_names = (kind_names-are, reader_fields-are, top_fields-are, view_fields-are)
