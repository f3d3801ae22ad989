mod SphereSquare
