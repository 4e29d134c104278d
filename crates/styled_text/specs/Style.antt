-- Styles, and texts that are painted in them.
use Rattle.std.specs.Prelude.{Bool, true, false, [], ◌∷◌, ◌++◌, codes}
use Rattle.styled_text.specs.Texts.{Text}
unfoldable pub use Rattle.writers.specs.Texts.{plain}
use Rattle.styled_text.specs.declared.style.{Style.Style, Styles.Styles, ListStyles.ListStyles}
use Rattle.styled_text.specs.declared.style.Style.TheVariants as style

-- the parameters of the sequence that begins a style
abbrev pub style_code : Style → Text
style_code style.Plain = []
style_code style.Bold = codes "1"
style_code style.BoldRed = codes "31;1"
style_code style.BoldGreen = codes "32;1"
style_code style.BoldYellow = codes "33;1"
style_code style.BoldBlue = codes "34;1"
style_code style.BoldMagenta = codes "35;1"
style_code style.Cyan = codes "36"
style_code style.BrightBlack = codes "90"

-- ESC [ 0 m
abbrev pub reset_color : Text
reset_color = 27 ∷ 91 ∷ 48 ∷ 109 ∷ []

-- ESC [ code m before a text in a style, and nothing before a plain one
abbrev pub style_prefix : Style → Text
style_prefix style.Plain = []
style_prefix s = 27 ∷ 91 ∷ (style_code s ++ 109 ∷ [])

-- what ends a style
abbrev pub style_suffix : Style → Text
style_suffix style.Plain = []
style_suffix s = reset_color

-- a text in a style, by a definition that a proof need not unfold
unfoldable pub styled : Style → Text → Text
styled s t = style_prefix s ++ (t ++ style_suffix s)

-- the styles of a report: all plain, or with colours
abbrev pub list_styles_of : Bool → ListStyles
list_styles_of false = record {
  binary_id = style.Plain;
  test_name = style.Plain;
  module_path = style.Plain;
  count = style.Plain;
}
list_styles_of true = record {
  binary_id = style.BoldMagenta;
  test_name = style.BoldBlue;
  module_path = style.Cyan;
  count = style.Bold;
}

abbrev pub styles_of : Bool → Styles
styles_of false = record {
  is_colorized = false;
  count = style.Plain;
  pass = style.Plain;
  retry = style.Plain;
  fail = style.Plain;
  skip = style.Plain;
  script_id = style.Plain;
  run_id_prefix = style.Plain;
  run_id_rest = style.Plain;
  list_styles = list_styles_of false;
}
styles_of true = record {
  is_colorized = true;
  count = style.Bold;
  pass = style.BoldGreen;
  retry = style.BoldMagenta;
  fail = style.BoldRed;
  skip = style.BoldYellow;
  script_id = style.BoldBlue;
  run_id_prefix = style.BoldMagenta;
  run_id_rest = style.BrightBlack;
  list_styles = list_styles_of true;
}
