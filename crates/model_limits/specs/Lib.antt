-- What is claimed of the limits on roles: they are kept, what 11 says under them, and what of other users counts under
-- them.

-- Believed: theorems or the contracts of exported functions are stated in these.
pub mod Card
pub mod Eleven
pub mod Apart
