-- What the E line says by number and value.
mod Says
